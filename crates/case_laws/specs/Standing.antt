-- This project's own. What items and nodes by number stand for.
use Rattle.std.specs.Prelude.{◌≡◌, ℕ, ◌+◌, List, [], ◌∷◌, ◌++◌, map, true, false, ℤ, Option, Some, None, Result, Ok, Err, ⊤}
use Rattle.std.specs.List.{AllByRecursion}
use Rattle.cert_model.specs.Nets.{Net}
use Rattle.cert_model.specs.Forms.{Form}
use Rattle.cert_model.specs.Formulas.{Compare}
use Rattle.cert_model.specs.Paths.{Item, Opens, State, entered}
use Rattle.cert_model.specs.Trees as trees
use Rattle.cert_model.specs.Judging as judging
use Rattle.tree_walks.specs.Walks.{ran}
use Rattle.case_tree.specs.Agendas.{Added, added_by}
use Rattle.case_tree.specs.declared.nodes.Kind.{Kind}
use Rattle.case_tree.specs.declared.nodes.Kind.TheVariants.{Close, Clash, Split, Cases, Each}
use Rattle.case_tree.specs.declared.nodes.Node.{Node}
use Rattle.case_tree.specs.States.{Section, all_visits, next, stop}

pub record Reading : Type 0 where
  -- the hypothesis with a number
  pub form : ℕ → Form
  pub item : ℕ → Item
  -- the summands of a `close`, and the places of a `clash`
  pub close : ℕ → List trees.Multiplier
  pub clash : ℕ → List ℕ
  -- the form and the limit of the `split` whose first item has the number
  pub split : ℕ → Form
  pub limit : ℕ → ℤ

abbrev pub with_added : Reading → Added → State → State
with_added reading added s = record {
  hypotheses = s.hypotheses ++ map reading.form added.hypotheses;
  choices = s.choices ++ map (map reading.item) added.choices;
  lowers = s.lowers ++ added.lowers;
  uppers = s.uppers ++ added.uppers;
}

-- entering an item adds to a state what the agenda says
abbrev pub IsAgenda : Net → Reading → List Added → Type 0
IsAgenda net reading items = (item : ℕ) (s : State) → entered net (reading.item item) s ≡ with_added reading (added_by items item) s

abbrev pub kind_of : Reading → Kind → trees.Kind
kind_of reading (Close mix) = trees.Close (reading.close mix)
kind_of reading (Clash places) = trees.Clash (reading.clash places)
kind_of reading (Split item) = trees.Split (reading.split item) (reading.limit item)
kind_of reading (Cases choice branches) = trees.Cases choice branches
kind_of reading (Each choice) = trees.Each choice

abbrev pub node_of : Reading → Node → trees.Node
node_of reading node = record { line = node.line; kind = kind_of reading node.kind }

-- the two items of a `split` suppose its two halves
abbrev pub IsSplit : Reading → Kind → Type 0
IsSplit reading (Close mix) = ⊤
IsSplit reading (Clash places) = ⊤
IsSplit reading (Split item) =
    (reading.item item ≡ Opens (Compare (trees.at_most (reading.split item) (reading.limit item))) true)
    × (reading.item (item + 1) ≡ Opens (Compare (trees.above (reading.split item) (reading.limit item))) true)
IsSplit reading (Cases choice branches) = ⊤
IsSplit reading (Each choice) = ⊤

-- the section by numbers stands for the other one
pub record StandsFor (reading : Reading) (section : Section) (other : judging.Section) : Type 0 where
  pub root : reading.item section.root ≡ Opens other.invariant false
  pub tree : other.tree ≡ map (node_of reading) section.nodes
  pub splits : AllByRecursion (λ node. IsSplit reading node.kind) section.nodes

abbrev pub StandFor : Reading → List Section → List judging.Section → Type 0
StandFor reading [] [] = ⊤
StandFor reading [] (other ∷ others) = ⊥
StandFor reading (section ∷ sections) [] = ⊥
StandFor reading (section ∷ sections) (other ∷ others) = StandsFor reading section other × StandFor reading sections others

-- where a walk stopped
abbrev pub stopped : Result ℕ ℕ → Option ℕ
stopped (Ok spent) = None
stopped (Err line) = Some line

abbrev pub LimitsAreTold : Type 0
LimitsAreTold = (net : Net) (reading : Reading) (items : List Added) → IsAgenda net reading items
    → (sections : List Section) (others : List judging.Section) → StandFor reading sections others
    → judging.tree_limit net others ≡ stopped (ran stop next 0 (all_visits record { items = items; entered = [] } sections))
