-- This project's own. The state of a path by the items that were entered, the walk over a tree from state to state, and its cost.
use Rattle.std.specs.Prelude.{ℕ, ◌+◌, ◌^◌, List, [], ◌∷◌, ◌++◌, drop, flat_map, length, map, slice_index_or, Option, Some, None, nat_eq, nat_le, if◌then◌else◌}
use Rattle.case_tree.specs.Agendas.{Added, added_by, weight}
use Rattle.case_tree.specs.declared.nodes.Kind.{Kind}
use Rattle.case_tree.specs.declared.nodes.Kind.TheVariants.{Close, Clash, Split, Cases, Each}
use Rattle.case_tree.specs.declared.nodes.Node.{Node}
use Rattle.cert_model.specs.Trees.{numbered}
use Rattle.tree_visits.specs.Forests.{forest_of, visits}

-- what there is to be entered, and what was entered, the last one first
pub record Path : Type 0 where
  pub items : List Added
  pub entered : List ℕ

abbrev pub with_item : ℕ → Path → Path
with_item item path = record path { entered = item ∷ path.entered }

abbrev pub hypotheses_of : List Added → List ℕ → List ℕ
hypotheses_of items [] = []
hypotheses_of items (item ∷ before) = hypotheses_of items before ++ (added_by items item).hypotheses

abbrev pub choices_of : List Added → List ℕ → List (List ℕ)
choices_of items [] = []
choices_of items (item ∷ before) = choices_of items before ++ (added_by items item).choices

abbrev pub lowers_of : List Added → List ℕ → List (ℕ × ℕ)
lowers_of items [] = []
lowers_of items (item ∷ before) = lowers_of items before ++ (added_by items item).lowers

abbrev pub uppers_of : List Added → List ℕ → List (ℕ × ℕ)
uppers_of items [] = []
uppers_of items (item ∷ before) = uppers_of items before ++ (added_by items item).uppers

-- a choice of the path, numbered from 1
abbrev pub choice_of : Path → ℕ → Option (List ℕ)
choice_of path number = numbered (choices_of path.items path.entered) number

-- how many items the choice has, if it is there
abbrev pub count_of : Option (List ℕ) → Option ℕ
count_of None = None
count_of (Some items) = Some (length items)

-- an item of the choice, from 0; 0 where it isn't there
abbrev pub pick : Option (List ℕ) → ℕ → ℕ
pick None index = 0
pick (Some items) index = slice_index_or items index 0

-- the path before the item that was entered last
abbrev pub left_path : Path → Path
left_path path = record path { entered = drop 1 path.entered }

-- a hypothesis of the path, numbered from 1
abbrev pub hypothesis_of : Path → ℕ → Option ℕ
hypothesis_of path number = numbered (hypotheses_of path.items path.entered) number

-- the hypotheses that items add, the first one's first
abbrev pub hypotheses_in : List Added → List ℕ → List ℕ
hypotheses_in items entered = flat_map (λ item. (added_by items item).hypotheses) entered

-- the choices that items add, the first one's first
abbrev pub choices_in : List Added → List ℕ → List (List ℕ)
choices_in items entered = flat_map (λ item. (added_by items item).choices) entered

-- the paths before this one, the nearest first
abbrev pub paths_below : List Added → List ℕ → List Path
paths_below items [] = []
paths_below items (item ∷ before) = record { items = items; entered = before } ∷ paths_below items before

-- the room that a path takes
abbrev pub room_of : Path → ℕ
room_of path = length path.entered + length (lowers_of path.items path.entered) + length (uppers_of path.items path.entered)

abbrev pub kind_count : Kind → ℕ
kind_count (Close mix) = 0
kind_count (Clash places) = 0
kind_count (Split item) = 2
kind_count (Cases choice branches) = branches
kind_count (Each choice) = 1

-- how many branches a node has
abbrev pub branch_count : Node → ℕ
branch_count node = kind_count node.kind

abbrev pub case_rounds : Path → ℕ → Option (List ℕ) → List (List Path)
case_rounds path count None = []
case_rounds path count (Some items) = if nat_eq (length items) count then map (λ item. with_item item path) items ∷ [] else []

abbrev pub each_rounds : Path → Option (List ℕ) → List (List Path)
each_rounds path None = []
each_rounds path (Some items) = map (λ item. with_item item path ∷ []) items

-- the paths on which a node's branches are entered, a list for each time that all of them are walked
abbrev pub kind_rounds : Path → Kind → List (List Path)
kind_rounds path (Close mix) = []
kind_rounds path (Clash places) = []
kind_rounds path (Split item) = (with_item item path ∷ with_item (item + 1) path ∷ []) ∷ []
kind_rounds path (Cases choice branches) = case_rounds path branches (choice_of path choice)
kind_rounds path (Each choice) = each_rounds path (choice_of path choice)

abbrev pub rounds : Path → Node → List (List Path)
rounds path node = kind_rounds path node.kind

-- what the item adds that was entered last
abbrev pub last_weight : List Added → List ℕ → ℕ
last_weight items [] = 0
last_weight items (item ∷ before) = weight (added_by items item)

-- what a visit costs: 1, and what the item adds that was entered last
abbrev pub cost : Path → ℕ
cost path = last_weight path.items path.entered + 1

-- the line of a visit at which the costs add up past 2^26
abbrev pub stop : ℕ → Path → Node → Option ℕ
stop spent path node = if nat_le (spent + cost path) (2 ^ 26) then None else Some node.line

abbrev pub next : ℕ → Path → Node → ℕ
next spent path node = spent + cost path

-- a path, and the room that it has
pub record Walked : Type 0 where
  pub path : Path
  pub room : ℕ

-- a tree in prefix order, and the item that a path to its root enters first
pub record Section : Type 0 where
  pub root : ℕ
  pub nodes : List Node

-- the visits of a section's walk from this path on
abbrev pub visits_of : Path → Section → List (Node × Path)
visits_of path section = visits rounds (forest_of branch_count section.nodes) (with_item section.root path ∷ [])

-- those of all sections
abbrev pub all_visits : Path → List Section → List (Node × Path)
all_visits path sections = flat_map (visits_of path) sections
