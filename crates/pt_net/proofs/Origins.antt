-- What a binary search for an origin finds among heads whose origins rise.
use Rattle.std.proofs.Common.{◌≡◌, ◌≢◌, ℕ, ◌<◌, ◌≤◌, Ordering, List, get_or, arith, ap, ◌∙◌, sym, inl, inr}
use Rattle.std.specs.Prelude.{All, AllPairs}
use Rattle.std.specs.Ordering.{nat_cmp, ordering_index, ordering_then}
use Rattle.std.specs.declared.cmp.Ordering.TheVariants.{Less, Equal, Greater}
use Rattle.std.specs.List.Sorted.{IsNonDecreasingBy, IsPartitionPoint}
use Rattle.std.proofs.lemmas.Bool.{cases_lt}
use Rattle.std.proofs.lemmas.Bool.Decides.{nat_tests}
use Rattle.pt_net.specs.declared.arrays.Head.{Head}
use Rattle.pt_net.specs.declared.instances.Origin.{Origin}
use Rattle.pt_net.specs.Instances.{IsBefore}
use Rattle.pt_net.specs.InArrays.{origin_from}

abbrev pub compared : Origin → Origin → Ordering
compared a b = ordering_then (nat_cmp a.transition b.transition) (nat_cmp a.binding b.binding)

equal_parts : (a b x y : ℕ) → ordering_then (nat_cmp a b) (nat_cmp x y) ≡ Equal → (a ≡ b) × (x ≡ y)
equal_parts a b x y e = (grind (arith, nat_tests), grind (arith, nat_tests))

-- what compares as equal is one origin
pub equal_is : (a b : Origin) → compared a b ≡ Equal → a ≡ b
equal_is a b e =
    let parts = equal_parts a.transition b.transition a.binding b.binding e in
    ap (λ (n : ℕ). let o : Origin = record { transition = n; binding = a.binding } in o) parts.0
    ∙ ap (λ (n : ℕ). let o : Origin = record { transition = b.transition; binding = n } in o) parts.1

-- an origin compares with itself as equal
same_parts : (a x : ℕ) → ordering_then (nat_cmp a a) (nat_cmp x x) ≡ Equal
same_parts a x = grind (arith, nat_tests)

pub compared-same : (a b : Origin) → a ≡ b → compared a b ≡ Equal
compared-same a b e = ap (λ o. compared o b) e ∙ same_parts b.transition b.binding

-- an earlier origin compares no higher
higher_parts : (a b o x y z : ℕ) → a ≤ b → (a ≡ b → x < y) → ordering_index (ordering_then (nat_cmp a o) (nat_cmp x z)) ≤ ordering_index (ordering_then (nat_cmp b o) (nat_cmp y z))
higher_parts a b o x y z le lt = grind (arith, nat_tests)

higher : (a b o : Origin) → IsBefore a b → ordering_index (compared a o) ≤ ordering_index (compared b o)
higher a b o before = higher_parts a.transition b.transition o.transition a.binding b.binding o.binding before.transition before.binding

rises : (ts : List Head) (o : Origin) → AllPairs (λ s t. IsBefore (origin_from s) (origin_from t)) ts → IsNonDecreasingBy (λ t. ordering_index (compared (origin_from t) o)) ts
rises ts o rising = λ i j d le within. elim (cases_lt i j) [
  | inl below ↦ higher (origin_from (get_or ts i d)) (origin_from (get_or ts j d)) o (rising i j d below within)
  | inr above ↦
      let same : i ≡ j = omega arith in
      let equal = ap (λ k. ordering_index (compared (origin_from (get_or ts k d)) o)) same in
      omega arith
]

-- no head has an origin that was not found
pub missing_origin : (o : Origin) (ts : List Head) (i : ℕ) → AllPairs (λ s t. IsBefore (origin_from s) (origin_from t)) ts
    → (IsNonDecreasingBy (λ t. ordering_index (compared (origin_from t) o)) ts → IsPartitionPoint (λ t. compared (origin_from t) o ≡ Less) (λ t. compared (origin_from t) o ≡ Greater) ts i) → All (λ t. origin_from t ≢ o) ts
missing_origin o ts i rising search_says =
    let parted = search_says (rises ts o rising) in
    λ k d within here.
    let equal = compared-same (origin_from (get_or ts k d)) o here in
    elim (cases_lt k i) [
      | inl below ↦ let less = parted.0 k d (omega arith) below in let wrong : Less ≡ Equal = sym less ∙ equal in cc
      | inr above ↦ let greater = parted.1 k d above within in let wrong : Greater ≡ Equal = sym greater ∙ equal in cc
    ]
