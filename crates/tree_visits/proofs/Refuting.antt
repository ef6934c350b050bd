-- Where each node that passes leads on to some branch, no state from which all visits pass is met.
use Rattle.std.proofs.Common.{◌≡◌, ℕ, zero, suc, ◌+◌, Bool, true, false, ◌&&◌, List, [], ◌∷◌, ◌++◌, length, flat_map, inl, inr, refl, sym, ◌∙◌, subst, arith}
use Rattle.std.specs.Bool.{⊤}
use Rattle.std.specs.List.{list_all, AllByRecursion}
use Rattle.std.proofs.lemmas.List.Folds.{list_all-append}
use Rattle.tree_visits.specs.Forests.{are_trees, Forest, NoTree, Tree, first_trees, trees_after, forest_of, visits, Some_of}

-- there are so many trees, each with the branches that its node has
abbrev pub HasTrees : {N : Type 0} → (N → ℕ) → ℕ → Forest N → Type 0
HasTrees count zero forest = ⊤
HasTrees count (suc k) NoTree = ⊥
HasTrees count (suc k) (Tree node branches rest) = HasTrees count (count node) branches × HasTrees count k rest

shift : (a b : ℕ) → suc a + b ≡ suc (a + b)
shift a b = omega arith

first_have : {N : Type 0} (count : N → ℕ) (c k : ℕ) (forest : Forest N) → HasTrees count (c + k) forest → HasTrees count c (first_trees c forest)
first_have count zero k forest has = tt
first_have count (suc c) k NoTree has = subst (λ n. HasTrees count n NoTree) (shift c k) has
first_have count (suc c) k (Tree node branches rest) has =
    let parts = subst (λ n. HasTrees count n (Tree node branches rest)) (shift c k) has in
    (parts.0, first_have count c k rest parts.1)

after_have : {N : Type 0} (count : N → ℕ) (c k : ℕ) (forest : Forest N) → HasTrees count (c + k) forest → HasTrees count k (trees_after c forest)
after_have count zero k forest has = subst (λ n. HasTrees count n forest) (none k) has
  where
    none : (b : ℕ) → 0 + b ≡ b
    none b = omega arith
after_have count (suc c) k NoTree has = absurd (subst (λ n. HasTrees count n NoTree) (shift c k) has)
after_have count (suc c) k (Tree node branches rest) has = after_have count c k rest (subst (λ n. HasTrees count n (Tree node branches rest)) (shift c k) has).1

pub spelled : {N : Type 0} (count : N → ℕ) (k : ℕ) (nodes : List N) → are_trees count k nodes ≡ true → HasTrees count k (forest_of count nodes)
spelled count zero nodes h = tt
spelled count (suc k) [] h = absurd cc
spelled count (suc k) (node ∷ nodes) h =
    let all = spelled count (count node + k) nodes h in
    (first_have count (count node) k (forest_of count nodes) all, after_have count (count node) k (forest_of count nodes) all)

both : (x y : Bool) → (x && y) ≡ true → (x ≡ true) × (y ≡ true)
both true y h = (refl, h)
both false y h = absurd cc

all_append : {X : Type 0} (p : X → Bool) (xs ys : List X) → list_all p (xs ++ ys) ≡ true → (list_all p xs ≡ true) × (list_all p ys ≡ true)
all_append p xs ys h = both (list_all p xs) (list_all p ys) (sym (list_all-append p xs ys) ∙ h)

abbrev pub AreSized : {S : Type 0} → ℕ → List (List S) → Type 0
AreSized n lists = AllByRecursion (λ states. length states ≡ n) lists

none_round : {S V : Type 0} (test : V → Bool) (P : S → Type 0) (f : List S → List V) (n : ℕ)
    → ((states : List S) → length states ≡ n → list_all test (f states) ≡ true → Some_of P states → ⊥)
    → (lists : List (List S)) → AreSized n lists → list_all test (flat_map f lists) ≡ true → Some_of (Some_of P) lists → ⊥
none_round test P f n none [] sized holds some = some
none_round test P f n none (states ∷ lists) sized holds (inl here) = none states sized.0 (all_append test (f states) (flat_map f lists) holds).0 here
none_round test P f n none (states ∷ lists) sized holds (inr later) = none_round test P f n none lists sized.1 (all_append test (f states) (flat_map f lists) holds).1 later

abbrev pub LeavesNoneOut : {N S : Type 0} → (S → N → List (List S)) → (N × S → Bool) → (S → Type 0) → Type 0
LeavesNoneOut {N} {S} rounds test P = (node : N) (s : S) → test (node, s) ≡ true → P s → Some_of (Some_of P) (rounds s node)

abbrev pub IsSized : {N S : Type 0} → (N → ℕ) → (S → N → List (List S)) → Type 0
IsSized {N} {S} count rounds = (node : N) (s : S) → AreSized (count node) (rounds s node)

pub refuted : {N S : Type 0} (count : N → ℕ) (rounds : S → N → List (List S)) (test : N × S → Bool) (P : S → Type 0) → IsSized count rounds → LeavesNoneOut rounds test P
    → (forest : Forest N) (starts : List S) → HasTrees count (length starts) forest → list_all test (visits rounds forest starts) ≡ true → Some_of P starts → ⊥
refuted count rounds test P sized step NoTree [] has holds some = some
refuted count rounds test P sized step NoTree (start ∷ starts) has holds some = has
refuted count rounds test P sized step (Tree node branches rest) [] has holds some = some
refuted count rounds test P sized step (Tree node branches rest) (start ∷ starts) has holds (inl met) =
    let here = both (test (node, start)) (list_all test (flat_map (λ states. visits rounds branches states) (rounds start node) ++ visits rounds rest starts)) holds in
    let below = all_append test (flat_map (λ states. visits rounds branches states) (rounds start node)) (visits rounds rest starts) here.1 in
    none_round test P (λ states. visits rounds branches states) (count node)
    (λ states long all some. refuted count rounds test P sized step branches states (subst (λ n. HasTrees count n branches) (sym long) has.0) all some)
    (rounds start node) (sized node start) below.0 (step node start here.0 met)
refuted count rounds test P sized step (Tree node branches rest) (start ∷ starts) has holds (inr later) =
    let here = both (test (node, start)) (list_all test (flat_map (λ states. visits rounds branches states) (rounds start node) ++ visits rounds rest starts)) holds in
    let below = all_append test (flat_map (λ states. visits rounds branches states) (rounds start node)) (visits rounds rest starts) here.1 in
    refuted count rounds test P sized step rest starts has.1 below.1 later
