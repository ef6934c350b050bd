-- What a walk over trees in prefix order comes to, and how many nodes make up each tree.
use Rattle.std.specs.Prelude.{◌≡◌, ℕ, suc, List, [], ◌∷◌, drop, length, ◌≤◌, Option, Some, None, Result, Ok, Err, IfOk, ⊤}
use Rattle.std.specs.List.{AllByRecursion}
use Rattle.tree_visits.specs.Forests.{forest_of, trees_after, tree_count}

-- after a visit: why the walk stops there, or what the rest comes to
abbrev pub unless : {A X : Type 0} → Option X → Result A X → Result A X
unless None rest = rest
unless (Some x) rest = Err x

-- the visits in order: why the walk stops at the first at which it does, or what they add up to
abbrev pub ran : {N S A X : Type 0} → (A → S → N → Option X) → (A → S → N → A) → A → List (N × S) → Result A X
ran stop next done [] = Ok done
ran stop next done (v ∷ vs) = unless (stop done v.1 v.0) (ran stop next (next done v.1 v.0) vs)

-- an answer of the walk, with what was spent then
abbrev pub told : {A X : Type 0} → Option X → A → Result A X
told None done = Ok done
told (Some x) done = Err x

-- where the walk comes to its end
abbrev pub Ends : {X E : Type 0} → Result (Option X) E → Type 0 → Type 0
Ends r fact = IfOk r (λ stop. stop ≡ None → fact)

-- the states of all visits have room
abbrev pub AllFit : {N S : Type 0} → (S → ℕ) → ℕ → List (N × S) → Type 0
AllFit size room vs = AllByRecursion (λ visit. size visit.1 ≤ room) vs

-- each node has its branches behind it
abbrev pub AreBranched : {N : Type 0} → (N → ℕ) → List N → Type 0
AreBranched count [] = ⊤
AreBranched count (node ∷ nodes) = (count node ≤ tree_count (forest_of count nodes)) × AreBranched count nodes

-- the node and those behind it that belong to its tree are so many
pub record IsSize {N : Type 0} (count : N → ℕ) (node : N) (nodes : List N) (size : ℕ) : Type 0 where
  pub some : 1 ≤ size
  pub within : size ≤ suc (length nodes)
  pub rest : forest_of count (drop size (node ∷ nodes)) ≡ trees_after (count node) (forest_of count nodes)

-- so many nodes make up the tree of each node: what stands behind them are the trees after it
abbrev pub AreSizes : {N : Type 0} → (N → ℕ) → List N → List ℕ → Type 0
AreSizes count [] [] = ⊤
AreSizes count [] (size ∷ sizes) = ⊥
AreSizes count (node ∷ nodes) [] = ⊥
AreSizes count (node ∷ nodes) (size ∷ sizes) = IsSize count node nodes size × AreSizes count nodes sizes
