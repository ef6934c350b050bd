-- The goal that the formula of a property is, over the numbers of the places and transitions of a net; and the faults of the
-- walk over it.
use Rattle.std.specs.Prelude.{ℕ, ◌+◌, ℤ, pos, unsigned_abs, Bool, true, false, nat_lt, List, [], ◌∷◌, ◌++◌, map, length, slice_index_or, Option, None, Some, codes, if◌then◌else◌}
use Rattle.std.specs.Str.{bytes_eq}
use Rattle.name_tables.specs.Grammar.{is_id_text, number_of}
use Rattle.name_tables.specs.Numbering.{number_in}
use Rattle.doc_model.specs.declared.tree.Element.{Element, fold-Element, out-Element}
use Rattle.doc_model.specs.declared.tree.Element.TheOpen.{Element-F}
use Rattle.net_elements.specs.Rules.{has, trimmed}
use Rattle.net_elements.specs.Walking.{name_of}
use Rattle.mcc_model.specs.declared.faults.FormulaFault.{FormulaFault}
use Rattle.mcc_model.specs.declared.faults.FormulaFault.TheVariants.{NotReachability, UnknownNode}
use Rattle.mcc_model.specs.declared.formulas.Count.{Count}
use Rattle.mcc_model.specs.declared.formulas.Count.TheVariants.{Number, Tokens}
use Rattle.mcc_model.specs.declared.formulas.Formula.{Formula}
use Rattle.mcc_model.specs.declared.formulas.Formula.TheVariants.{Not, And, Or, AtMost, Fireable}
use Rattle.mcc_model.specs.declared.formulas.Goal.{Goal}
use Rattle.mcc_model.specs.declared.parts.Part.{Part}
use Rattle.mcc_model.specs.declared.parts.Part.TheVariants as part
use Rattle.mcc_model.specs.Table.{fewest, part_named, part_of_child, states}

-- The ids of the places and of the transitions of a net, each numbered by its place in the list.
pub record Nodes : Type 0 where
  pub places : List (List ℕ)
  pub transitions : List (List ℕ)

-- The faults.

-- an element as the one around it sees it: its name, its offset, and the faults in it where it is read as a part
pub record Walk : Type 0 where
  pub name : List ℕ
  pub at : ℕ
  pub faults : Part → List FormulaFault

abbrev pub fault_if : Bool → FormulaFault → List FormulaFault
fault_if true fault = fault ∷ []
fault_if false fault = []

-- a child: by the table it is read as a part, or it may not stand there
abbrev pub faults_as : Walk → Option Part → List FormulaFault
faults_as child None = NotReachability child.at ∷ []
faults_as child (Some p) = child.faults p

-- the children in order, behind so many others
abbrev pub children_faults : Part → ℕ → List Walk → List FormulaFault
children_faults parent before [] = []
children_faults parent before (c ∷ cs) =
    faults_as c (part_of_child parent before c.name) ++ children_faults parent (before + 1) cs

-- the text without white at its ends: an id of a node, or a number
abbrev pub id_faults : List (List ℕ) → ℕ → List ℕ → List FormulaFault
id_faults names at id =
    if is_id_text id then (if has (number_in names id) then [] else UnknownNode at ∷ []) else NotReachability at ∷ []

abbrev pub number_faults : ℕ → List ℕ → List FormulaFault
number_faults at text = if has (number_of false text) then [] else NotReachability at ∷ []

abbrev pub text_faults : Nodes → Part → ℕ → List ℕ → List FormulaFault
text_faults nodes part.Place at text = id_faults nodes.places at text
text_faults nodes part.Transition at text = id_faults nodes.transitions at text
text_faults nodes part.IntegerConstant at text = number_faults at text
text_faults nodes _ at text = []

-- an element: its children, what is missing among them, and its text
abbrev pub end_faults : Nodes → Part → ℕ → ℕ → List ℕ → List FormulaFault
end_faults nodes p at count text = fault_if (nat_lt count (fewest p)) (NotReachability at) ++ text_faults nodes p at (trimmed text)

abbrev pub walk_of_parts : Nodes → Element-F Walk → Walk
walk_of_parts nodes e = record {
  name = e.name;
  at = e.at;
  faults = λ p. children_faults p 0 e.children ++ end_faults nodes p e.at (length e.children) e.text;
}

abbrev pub walk_of : Nodes → Element → Walk
walk_of nodes e = fold-Element Walk (walk_of_parts nodes) e

-- all faults of an element `formula`, in the order of the walk
abbrev pub goal_faults : Nodes → Element → List FormulaFault
goal_faults nodes e = (walk_of nodes e).faults part.Whole

-- The goal.

-- what an element gives to the one around it, where no fault is in it: its text, and what it is as a formula and as a number
pub record Given : Type 0 where
  pub text : List ℕ
  pub formula : Formula
  pub count : Count

abbrev pub nothing : Given
nothing = record { text = []; formula = And []; count = Number 0 }

abbrev pub child : ℕ → List Given → Given
child at cs = slice_index_or cs at nothing

abbrev pub or_zero : Option ℤ → ℤ
or_zero None = pos 0
or_zero (Some number) = number

abbrev pub or_first : Option ℕ → ℕ
or_first None = 0
or_first (Some number) = number

-- the number that a text writes
abbrev pub written : List ℕ → ℕ
written text = unsigned_abs (or_zero (number_of false (trimmed text)))

-- the number of the node whose id a text is
abbrev pub node_of : List (List ℕ) → List ℕ → ℕ
node_of names text = or_first (number_in names (trimmed text))

abbrev pub nodes_in : List (List ℕ) → List Given → List ℕ
nodes_in names cs = map (λ c. node_of names c.text) cs

-- what is read as a number, and what is read as a formula: a formula, and what leads to one
abbrev pub count_parts : List Part
count_parts = part.TokensCount ∷ part.IntegerConstant ∷ []

abbrev pub formula_parts : List Part
formula_parts = states ++ part.Whole ∷ part.AllPaths ∷ part.ExistsPath ∷ part.Globally ∷ part.Finally ∷ []

abbrev pub count_part : Nodes → Option Part → List Given → List ℕ → Count
count_part nodes (Some part.TokensCount) cs text = Tokens (nodes_in nodes.places cs)
count_part nodes (Some part.IntegerConstant) cs text = Number (written text)
count_part nodes _ cs text = Number 0

abbrev pub formula_part : Nodes → Option Part → List Given → Formula
formula_part nodes (Some part.Negation) cs = Not (child 0 cs).formula
formula_part nodes (Some part.Conjunction) cs = And (map (λ c. c.formula) cs)
formula_part nodes (Some part.Disjunction) cs = Or (map (λ c. c.formula) cs)
formula_part nodes (Some part.IntegerLe) cs = AtMost (child 0 cs).count (child 1 cs).count
formula_part nodes (Some part.IsFireable) cs = Fireable (nodes_in nodes.transitions cs)
formula_part nodes (Some part.Whole) cs = (child 0 cs).formula
formula_part nodes (Some part.AllPaths) cs = (child 0 cs).formula
formula_part nodes (Some part.ExistsPath) cs = (child 0 cs).formula
formula_part nodes (Some part.Globally) cs = (child 0 cs).formula
formula_part nodes (Some part.Finally) cs = (child 0 cs).formula
formula_part nodes _ cs = And []

abbrev pub given_by_parts : Nodes → Element-F Given → Given
given_by_parts nodes e = record {
  text = e.text;
  formula = formula_part nodes (part_named formula_parts e.name) e.children;
  count = count_part nodes (part_named count_parts e.name) e.children e.text;
}

abbrev pub given : Nodes → Element → Given
given nodes e = fold-Element Given (given_by_parts nodes) e

-- whether the formula is said of each marking
abbrev pub is_universal : List Element → Bool
is_universal [] = false
is_universal (e ∷ es) = bytes_eq (name_of e) (codes "all-paths")

-- the goal that an element `formula` is, where no fault is in it
abbrev pub goal_of : Nodes → Element → Goal
goal_of nodes e = record { universal = is_universal (out-Element e).children; formula = (given nodes e).formula }
