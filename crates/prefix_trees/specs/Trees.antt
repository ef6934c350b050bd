-- Trees in prefix order: each node stands before its branches, and those in order. `count` says how many branches a node has.
use Rattle.std.specs.Prelude.{ℕ, zero, suc, ◌-◌, ◌<◌, List, [], ◌∷◌, ◌++◌, length, flat_map, ◌≡◌}
use Rattle.std.specs.List.{AllByRecursion}

-- a tree up to this depth: a node, and then the trees of its branches
abbrev pub IsTree : {N : Type 0} → (N → ℕ) → ℕ → List N → Type 0
IsTree count zero nodes = ⊥
IsTree {N} count (suc depth) nodes =
    (node : N)
    × (branches : List (List N))
    × (nodes ≡ node ∷ flat_map (λ branch. branch) branches)
    × (length branches ≡ count node)
    × AllByRecursion (IsTree count depth) branches

abbrev pub IsSomeTree : {N : Type 0} → (N → ℕ) → List N → Type 0
IsSomeTree count nodes = (depth : ℕ) × IsTree count depth nodes

-- a node behind these nodes of a tree has so many nodes above it: it is the root, or stands in a branch of the root, behind
-- whole branches
abbrev pub HasAbove : {N : Type 0} → (N → ℕ) → ℕ → List N → Type 0
HasAbove count zero nodes = nodes ≡ []
HasAbove {N} count (suc above) nodes =
    (node : N)
    × (whole : List (List N))
    × (part : List N)
    × (nodes ≡ node ∷ (flat_map (λ branch. branch) whole ++ part))
    × (length whole < count node)
    × AllByRecursion (IsSomeTree count) whole
    × HasAbove count above part

-- how many branches of each open node are to come, the innermost first, after a node with so many branches: it is one branch
-- of the innermost, and those without a branch to come are closed
abbrev pub one_less : List ℕ → List ℕ
one_less [] = []
one_less (count ∷ counts) = (count - 1) ∷ counts

abbrev pub still_open : List ℕ → List ℕ
still_open [] = []
still_open (zero ∷ counts) = still_open counts
still_open (suc count ∷ counts) = suc count ∷ counts

abbrev pub opens_after : ℕ → List ℕ → List ℕ
opens_after branches opens = still_open (branches ∷ one_less opens)
