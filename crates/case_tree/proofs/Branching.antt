-- The rounds of a node, and the item that a branch enters.
use Rattle.std.proofs.Common.{◌≡◌, ℕ, zero, suc, ◌+◌, ◌<◌, Bool, true, false, nat_eq, List, [], ◌∷◌, length, map, slice_index_or, refl, sym, ◌∙◌, ap, subst, arith}
use Rattle.std.specs.Prelude.{All, Option, Some, None, if◌then◌else◌, cond}
use Rattle.std.proofs.lemmas.Bool.Decides.{nat_tests}
use Rattle.std.proofs.lemmas.List.{length-map}
use Rattle.case_tree.specs.declared.nodes.Kind.{Kind}
use Rattle.case_tree.specs.declared.nodes.Kind.TheVariants.{Close, Clash, Split, Cases, Each}
use Rattle.case_tree.specs.States.{Path, with_item, choice_of, kind_count, kind_rounds, count_of, pick, case_rounds, each_rounds}

get_map : {X Y : Type 0} (f : X → Y) (xs : List X) (i : ℕ) (d : X) (e : Y) → i < length xs → slice_index_or (map f xs) i e ≡ f (slice_index_or xs i d)
get_map f [] i d e low = absurd (omega (arith, low))
get_map f (x ∷ xs) zero d e low = refl
get_map f (x ∷ xs) (suc i) d e low = get_map f xs i d e (omega (arith, low))

count_true : (b : Bool) (path : Path) (items : List ℕ) → length (if b then map (λ item. with_item item path) items ∷ [] else []) ≡ cond b 1 0
count_true true path items = refl
count_true false path items = refl

-- a choice of so many items
pub case_count : (path : Path) (o : Option (List ℕ)) (count n : ℕ) → Some n ≡ count_of o → length (case_rounds path count o) ≡ cond (nat_eq n count) 1 0
case_count path None count n is = absurd cc
case_count path (Some items) count n is =
    let same : n ≡ length items = cc in
    count_true (nat_eq (length items) count) path items ∙ ap (λ k. cond (nat_eq k count) 1 0) (sym same)

pub case_none : (path : Path) (o : Option (List ℕ)) (count : ℕ) → None ≡ count_of o → length (case_rounds path count o) ≡ 0
case_none path None count is = refl
case_none path (Some items) count is = absurd cc

pub each_count : (path : Path) (o : Option (List ℕ)) (n : ℕ) → Some n ≡ count_of o → length (each_rounds path o) ≡ n
each_count path None n is = absurd cc
each_count path (Some items) n is =
    let same : n ≡ length items = cc in
    length-map items (λ item. with_item item path ∷ []) ∙ sym same

pub each_none : (path : Path) (o : Option (List ℕ)) → None ≡ count_of o → length (each_rounds path o) ≡ 0
each_none path None is = refl
each_none path (Some items) is = absurd cc

-- each round has a path for each branch
sized_if : (b : Bool) (path : Path) (items : List ℕ) (count : ℕ) → nat_eq (length items) count ≡ b
    → All (λ paths. length paths ≡ count) (if b then map (λ item. with_item item path) items ∷ [] else [])
sized_if true path items count is zero d low = length-map items (λ item. with_item item path) ∙ grind (arith, nat_tests)
sized_if true path items count is (suc i) d low = absurd (omega (arith, low))
sized_if false path items count is i d low = absurd (omega (arith, low))

pub case_sized : (path : Path) (o : Option (List ℕ)) (count : ℕ) → All (λ paths. length paths ≡ count) (case_rounds path count o)
case_sized path None count i d low = absurd (omega (arith, low))
case_sized path (Some items) count i d low = sized_if (nat_eq (length items) count) path items count refl i d low

pub each_sized : (path : Path) (o : Option (List ℕ)) → All (λ paths. length paths ≡ 1) (each_rounds path o)
each_sized path None i d low = absurd (omega (arith, low))
each_sized path (Some items) i d low =
    ap length (get_map (λ item. with_item item path ∷ []) items i 0 d (subst (λ n. i < n) (length-map items (λ item. with_item item path ∷ [])) low))

-- the path on which a branch is entered
branch_if : (b : Bool) (path : Path) (items : List ℕ) (count round branch : ℕ) → nat_eq (length items) count ≡ b → branch < count
    → round < length (if b then map (λ item. with_item item path) items ∷ [] else [])
    → slice_index_or (slice_index_or (if b then map (λ item. with_item item path) items ∷ [] else []) round []) branch path ≡ with_item (slice_index_or items branch 0) path
branch_if true path items count zero branch is low there = get_map (λ item. with_item item path) items branch 0 path (grind (arith, nat_tests))
branch_if true path items count (suc round) branch is low there = absurd (omega (arith, there))
branch_if false path items count round branch is low there = absurd (omega (arith, there))

pub case_branch : (path : Path) (o : Option (List ℕ)) (count round branch : ℕ) → round < length (case_rounds path count o) → branch < count
    → slice_index_or (slice_index_or (case_rounds path count o) round []) branch path ≡ with_item (pick o branch) path
case_branch path None count round branch there low = absurd (omega (arith, there))
case_branch path (Some items) count round branch there low = branch_if (nat_eq (length items) count) path items count round branch refl low there

first : {X : Type 0} (xs : List X) (x : X) (branch : ℕ) (d : X) → xs ≡ x ∷ [] → branch < 1 → slice_index_or xs branch d ≡ x
first xs x zero d is low = ap (λ ys. slice_index_or ys 0 d) is
first xs x (suc branch) d is low = absurd (omega (arith, low))

pub each_branch : (path : Path) (o : Option (List ℕ)) (round branch : ℕ) → round < length (each_rounds path o) → branch < 1
    → slice_index_or (slice_index_or (each_rounds path o) round []) branch path ≡ with_item (pick o round) path
each_branch path None round branch there low = absurd (omega (arith, there))
each_branch path (Some items) round branch there low =
    first _ (with_item (slice_index_or items round 0) path) branch path
    (get_map (λ item. with_item item path ∷ []) items round 0 [] (subst (λ n. round < n) (length-map items (λ item. with_item item path ∷ [])) there)) low

pub split_branch : (path : Path) (item round branch : ℕ) → round < 1 → branch < 2
    → slice_index_or (slice_index_or ((with_item item path ∷ with_item (item + 1) path ∷ []) ∷ []) round []) branch path ≡ with_item (item + branch) path
split_branch path item zero zero there low = ap (λ n. with_item n path) (let same : item ≡ item + 0 = omega arith in same)
split_branch path item zero (suc zero) there low = refl
split_branch path item zero (suc (suc branch)) there low = absurd (omega (arith, low))
split_branch path item (suc round) branch there low = absurd (omega (arith, there))

pub kind_sized : (path : Path) (kind : Kind) → All (λ paths. length paths ≡ kind_count kind) (kind_rounds path kind)
kind_sized path (Close mix) i d low = absurd (omega (arith, low))
kind_sized path (Clash places) i d low = absurd (omega (arith, low))
kind_sized path (Split item) zero d low = refl
kind_sized path (Split item) (suc i) d low = absurd (omega (arith, low))
kind_sized path (Cases choice branches) i d low = case_sized path (choice_of path choice) branches i d low
kind_sized path (Each choice) i d low = each_sized path (choice_of path choice) i d low
