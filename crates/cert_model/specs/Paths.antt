-- The state of a path in a tree (this project's own): what is supposed of a marking, and what is open.
use Rattle.std.specs.Prelude.{◌≡◌, ℕ, ◌+◌, ◌-◌, ◌≤◌, ◌<◌, List, [], ◌∷◌, ◌++◌, map, length, Bool, true, false, not, nat_eq, max, min, if◌then◌else◌, Option, Some, None}
use Rattle.std.specs.List.{AllByRecursion}
use Rattle.tree_visits.specs.Forests.{Some_of}
use Rattle.cert_model.specs.Nets.{Counts, Net}
use Rattle.cert_model.specs.Forms.{Form, value_at, NotNegative, denial}
use Rattle.cert_model.specs.Formulas.{Formula, Formulas, Compare, Fireable, Not, And, Or, End, More, instances_of, fits, truth}

-- one alternative of a choice
pub data Item : Type 0 where
  -- the formula has this truth
  Opens : Formula → Bool → Item
  -- these inputs are there
  Enabled : List (ℕ × ℕ) → Item
  -- the place has fewer tokens than this
  Short : ℕ → ℕ → Item

-- hypotheses and choices are numbered from 1 in the order in which they were added; a bound is a
-- place and a count, and of several on a place the sharpest counts
pub record State : Type 0 where
  pub hypotheses : List Form
  pub choices : List (List Item)
  pub lowers : List (ℕ × ℕ)
  pub uppers : List (ℕ × ℕ)

abbrev pub nothing_supposed : State
nothing_supposed = record { hypotheses = []; choices = []; lowers = []; uppers = [] }

-- the lower bound of the place, 0 where none is named
abbrev pub lower_of : List (ℕ × ℕ) → ℕ → ℕ
lower_of [] p = 0
lower_of (bound ∷ bounds) p = if nat_eq bound.0 p then max bound.1 (lower_of bounds p) else lower_of bounds p

abbrev pub least : ℕ → Option ℕ → Option ℕ
least n None = Some n
least n (Some k) = Some (min n k)

-- the upper bound of the place, if one is named
abbrev pub upper_of : List (ℕ × ℕ) → ℕ → Option ℕ
upper_of [] p = None
upper_of (bound ∷ bounds) p = if nat_eq bound.0 p then least bound.1 (upper_of bounds p) else upper_of bounds p

abbrev pub with_hypothesis : Form → State → State
with_hypothesis form s = record s { hypotheses = s.hypotheses ++ form ∷ [] }

abbrev pub with_choices : List (List Item) → State → State
with_choices choices s = record s { choices = s.choices ++ choices }

abbrev pub parts : Formulas → Bool → List Item
parts End sign = []
parts (More f fs) sign = Opens f sign ∷ parts fs sign

-- supposing that a formula has this truth
abbrev mutual
  pub opened : Net → Formula → Bool → State → State
  opened net (Compare form) true s = with_hypothesis form s
  opened net (Compare form) false s = with_hypothesis (denial form) s
  opened net (Fireable transitions) true s = with_choices (map (λ live. Enabled live.needs) (instances_of net transitions) ∷ []) s
  opened net (Fireable transitions) false s = with_choices (map (λ live. map (λ need. Short need.0 need.1) live.needs) (instances_of net transitions)) s
  opened net (Not f) sign s = opened net f (not sign) s
  opened net (And fs) true s = opened_each net fs true s
  opened net (And fs) false s = with_choices (parts fs false ∷ []) s
  opened net (Or fs) true s = with_choices (parts fs true ∷ []) s
  opened net (Or fs) false s = opened_each net fs false s

  pub opened_each : Net → Formulas → Bool → State → State
  opened_each net End sign s = s
  opened_each net (More f fs) sign s = opened_each net fs sign (opened net f sign s)

abbrev pub entered : Net → Item → State → State
entered net (Opens f sign) s = opened net f sign s
entered net (Enabled needs) s = record s { lowers = s.lowers ++ needs }
entered net (Short p n) s = record s { uppers = s.uppers ++ (p, n - 1) ∷ [] }

-- how many hypotheses, items of choices and bounds were named
abbrev pub size : State → ℕ
size s = length s.hypotheses + items s.choices + length s.lowers + length s.uppers
  where
    items : List (List Item) → ℕ
    items [] = 0
    items (choice ∷ choices) = length choice + items choices

-- what an item says of a marking
abbrev pub Fulfils : Net → Counts → Item → Type 0
Fulfils net marking (Opens f sign) = truth net marking f ≡ sign
Fulfils net marking (Enabled needs) = fits needs marking ≡ true
Fulfils net marking (Short p n) = marking p < n

-- what the state supposes of a marking
pub record Meets (net : Net) (marking : Counts) (s : State) : Type 0 where
  pub hypotheses : AllByRecursion (λ form. NotNegative (value_at net form marking)) s.hypotheses
  pub choices : AllByRecursion (Some_of (Fulfils net marking)) s.choices
  pub lowers : AllByRecursion (λ bound. bound.1 ≤ marking bound.0) s.lowers
  pub uppers : AllByRecursion (λ bound. marking bound.0 ≤ bound.1) s.uppers
