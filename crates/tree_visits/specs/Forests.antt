-- This project's own. Trees in prefix order, and the visits of a walk over them. `count` says how many branches a node
-- has, and `rounds` in which states they are entered: a list each time that all of them are walked.
use Rattle.std.specs.Prelude.{ℕ, zero, suc, ◌+◌, List, [], ◌∷◌, ◌++◌, flat_map, Bool, true, false, ◌⊎◌}

-- the nodes are just so many trees in prefix order, one after the other
abbrev pub are_trees : {N : Type 0} → (N → ℕ) → ℕ → List N → Bool
are_trees count zero [] = true
are_trees count (suc k) [] = false
are_trees count zero (node ∷ nodes) = false
are_trees count (suc k) (node ∷ nodes) = are_trees count (count node + k) nodes

-- trees side by side: the first one's node, its branches, and the trees after it
pub data Forest (N : Type 0) : Type 0 where
  NoTree : Forest N
  Tree : N → Forest N → Forest N → Forest N

abbrev pub first_trees : {N : Type 0} → ℕ → Forest N → Forest N
first_trees zero forest = NoTree
first_trees (suc k) NoTree = NoTree
first_trees (suc k) (Tree node branches rest) = Tree node branches (first_trees k rest)

abbrev pub trees_after : {N : Type 0} → ℕ → Forest N → Forest N
trees_after zero forest = forest
trees_after (suc k) NoTree = NoTree
trees_after (suc k) (Tree node branches rest) = trees_after k rest

-- the trees that nodes in prefix order spell
abbrev pub forest_of : {N : Type 0} → (N → ℕ) → List N → Forest N
forest_of count [] = NoTree
forest_of count (node ∷ nodes) = Tree node (first_trees (count node) (forest_of count nodes)) (trees_after (count node) (forest_of count nodes))

-- how many trees stand side by side
abbrev pub tree_count : {N : Type 0} → Forest N → ℕ
tree_count NoTree = 0
tree_count (Tree node branches rest) = suc (tree_count rest)

-- the visits of trees side by side, each from its own state, in prefix order
abbrev pub visits : {N S : Type 0} → (S → N → List (List S)) → Forest N → List S → List (N × S)
visits rounds NoTree starts = []
visits rounds (Tree node branches rest) [] = []
visits rounds (Tree node branches rest) (start ∷ starts) =
    (node, start) ∷ flat_map (λ states. visits rounds branches states) (rounds start node) ++ visits rounds rest starts

-- one of the list is such a one
abbrev pub Some_of : {X : Type 0} → (X → Type 0) → List X → Type 0
Some_of P [] = ⊥
Some_of P (x ∷ xs) = P x ⊎ Some_of P xs
