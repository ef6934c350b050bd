-- The table of the elements of formulas (the property format of the Model Checking Contest, reachability properties; that these
-- are all, in this number, is this project's own).
use Rattle.std.specs.Prelude.{ℕ, Bool, true, false, ◌||◌, nat_lt, List, [], ◌∷◌, Option, None, Some, codes, if◌then◌else◌}
use Rattle.std.specs.Str.{bytes_eq}
use Rattle.mcc_model.specs.declared.parts.Part.{Part}
use Rattle.mcc_model.specs.declared.parts.Part.TheVariants.{Whole, AllPaths, ExistsPath, Globally, Finally, Negation, Conjunction, Disjunction, IntegerLe, TokensCount, IntegerConstant, IsFireable, Place, Transition}

-- the name of the elements of a part
abbrev pub word_of : Part → List ℕ
word_of Whole = codes "formula"
word_of AllPaths = codes "all-paths"
word_of ExistsPath = codes "exists-path"
word_of Globally = codes "globally"
word_of Finally = codes "finally"
word_of Negation = codes "negation"
word_of Conjunction = codes "conjunction"
word_of Disjunction = codes "disjunction"
word_of IntegerLe = codes "integer-le"
word_of TokensCount = codes "tokens-count"
word_of IntegerConstant = codes "integer-constant"
word_of IsFireable = codes "is-fireable"
word_of Place = codes "place"
word_of Transition = codes "transition"

-- the formulas about a marking
abbrev pub states : List Part
states = Negation ∷ Conjunction ∷ Disjunction ∷ IntegerLe ∷ IsFireable ∷ []

-- what the children of a part may be
abbrev pub parts_of : Part → List Part
parts_of Whole = AllPaths ∷ ExistsPath ∷ []
parts_of AllPaths = Globally ∷ []
parts_of ExistsPath = Finally ∷ []
parts_of Globally = states
parts_of Finally = states
parts_of Negation = states
parts_of Conjunction = states
parts_of Disjunction = states
parts_of IntegerLe = TokensCount ∷ IntegerConstant ∷ []
parts_of TokensCount = Place ∷ []
parts_of IsFireable = Transition ∷ []
parts_of IntegerConstant = []
parts_of Place = []
parts_of Transition = []

-- how many there are at least
abbrev pub fewest : Part → ℕ
fewest IntegerLe = 2
fewest IntegerConstant = 0
fewest Place = 0
fewest Transition = 0
fewest _ = 1

-- whether there may be more
abbrev pub may_have_more : Part → Bool
may_have_more Conjunction = true
may_have_more Disjunction = true
may_have_more TokensCount = true
may_have_more IsFireable = true
may_have_more _ = false

-- whether a child may stand behind so many others
abbrev pub has_room : Part → ℕ → Bool
has_room part before = may_have_more part || nat_lt before (fewest part)

-- the first of some parts that has a name
abbrev pub part_named : List Part → List ℕ → Option Part
part_named [] name = None
part_named (p ∷ ps) name = if bytes_eq name (word_of p) then Some p else part_named ps name

-- how a child of a name is read behind so many others; none where it may not stand there
abbrev pub part_of_child : Part → ℕ → List ℕ → Option Part
part_of_child parent before name = if has_room parent before then part_named (parts_of parent) name else None
