-- The tests of a guard.
use Rattle.std.proofs.Common.{◌≡◌, ℕ, zero, suc, ◌+◌, ◌<◌, ◌≤◌, Bool, true, false, List, [], ◌∷◌, ◌++◌, ◌&&◌, ◌||◌, not, map, take, get_or, length, refl, sym, ap, subst, ◌∙◌, arith, map-id, Option, None, Some}
use Rattle.std.specs.Prelude.{slice_get, slice_index, slice_index_or, position}
use Rattle.std.proofs.lemmas.List.{get_or-take, map-append, take_all, take_more}
use Rattle.std.proofs.lemmas.List.FromFn.{map-range_with_len_more}
use Rattle.std.proofs.lemmas.List.Folds.{list_all-map}
use Rattle.std.proofs.lemmas.List.Sorted.{All-permutation, list_any-IsPermutation}
use Rattle.std.proofs.lemmas.List.Quantifiers.{position-Some}
use Rattle.std.proofs.lemmas.Option.{slice_get-get_or}
use Rattle.std.specs.List.{All, list_all, list_any, range_with_len}
use Rattle.std.specs.List.Sorted.{IsPermutation}
use Rattle.std.specs.Str.{bytes_eq}
use Rattle.std.specs.Cmp.Lexicographic.{bytes_decides}
use Rattle.colour_sorts.specs.declared.sorts.Colour.TheVariants as colour
use Rattle.multiset_terms.specs.declared.conditions.CGuard.{CGuard}
use Rattle.multiset_terms.specs.Bindings.{binding_of}
use Rattle.multiset_terms.specs.Conditions.{condition_uses_at}
use Rattle.multiset_terms.specs.Context.{Context}
use Rattle.multiset_terms.specs.Standing.{compiled_parts}
use Rattle.multiset_terms.specs.Typing.{at_place, variable_sort}
use Rattle.multiset_terms.specs.Values.{colours_of}
use Rattle.multiset_terms.proofs.Conjunctions.{itself}
use Rattle.multiset_terms.proofs.Depending.{truth-depends}
use Rattle.guard_walks.specs.declared.walks.Signature.{Signature}
use Rattle.guard_walks.specs.declared.walks.Test.{Test}
use Rattle.guard_walks.specs.Testing.{AreTests, BeginAlike, IsTest}
use Rattle.guard_walks.specs.Walks.{IsGuard, IsOver, all_sizes, is_part_true_at, is_true_at, part_at, values_at}
use Rattle.guard_walks.proofs.Known.{part-known, part-uses, parts-true, sizes-many, true-as-written}
use Rattle.guard_walks.proofs.Setting.{value-at}

-- the colour of a variable depends on its index alone
same-colour : (ctx : Context) (id : List ℕ) (a b : List ℕ) → ((v : ℕ) → position (bytes_eq id) ctx.variables.ids ≡ Some v → slice_index a v ≡ slice_index b v) → binding_of ctx a id ≡ binding_of ctx b id
same-colour ctx id a b same = by (position (bytes_eq id) ctx.variables.ids) refl
  where
    by : (found : Option ℕ) → position (bytes_eq id) ctx.variables.ids ≡ found
        → at_place colour.Dot (λ at. slice_index_or (colours_of ctx (variable_sort ctx at)) (slice_index a at) colour.Dot) found
        ≡ at_place colour.Dot (λ at. slice_index_or (colours_of ctx (variable_sort ctx at)) (slice_index b at) colour.Dot) found
    by None is = refl
    by (Some v) is = ap (λ n. slice_index_or (colours_of ctx (variable_sort ctx v)) n colour.Dot) (same v is)

-- a value among the first ones
same-value : (variables : List ℕ) (needs at : ℕ) (a b : List ℕ) → BeginAlike variables needs a b → at < needs → at < length variables
    → slice_index a (slice_index variables at) ≡ slice_index b (slice_index variables at)
same-value variables needs at a b same small within =
    sym (value-at a variables at within) ∙ sym (get_or-take needs (values_at a variables) at 0 small)
    ∙ ap (λ xs. get_or xs at 0) same ∙ get_or-take needs (values_at b variables) at 0 small ∙ value-at b variables at within

-- a test of a part whose last variable is among the first ones
pub is_test : (s : Signature) (c : CGuard) (variables : List ℕ) (needs part : ℕ) → IsGuard s c → IsOver s c variables
    → part < length (compiled_parts c) → needs ≤ length variables
    → ((k : ℕ) → k < length variables → condition_uses_at (slice_index variables k) (part_at c part) ≡ true → k < needs)
    → IsTest (is_part_true_at s c) (length (compiled_parts c)) (all_sizes s) variables (record { needs = needs; part = part })
is_test s c variables needs part known over there few last = record {
  there = there;
  needs = few;
  depends = λ a b first second same.
      (let h = part-known s c part known there in
      let ctx = known.context in
      true-as-written s c (part_at c part) h.written a known h.stands first
      ∙ truth-depends ctx h.written (binding_of ctx a) (binding_of ctx b) (λ id occurs. same-colour ctx id a b (λ v found.
      (let at = position-Some (bytes_eq id) ctx.variables.ids v [] found in
      let name : id ≡ get_or ctx.variables.ids v [] = (bytes_decides id (get_or ctx.variables.ids v [])).0 at.1 in
      let is : slice_get ctx.variables.ids v ≡ Some id = slice_get-get_or ctx.variables.ids v [] at.0 ∙ ap Some (sym name) in
      let used : condition_uses_at v (part_at c part) ≡ true = (itself h.stands).variables v id is ∙ occurs in
      let own = over v (declared v at.0) (part-uses v c part there used) in
      subst (λ n. slice_index a n ≡ slice_index b n) own.2
      (same-value variables needs own.0 a b same (last own.0 own.1 (ap (λ n. condition_uses_at n (part_at c part)) own.2 ∙ used)) own.1))))
      ∙ sym (true-as-written s c (part_at c part) h.written b known h.stands second));
}
  where
    declared : (v : ℕ) → v < length known.context.variables.ids → v < length (all_sizes s)
    declared v within =
        let many : length known.context.variables.ids ≡ length s.variables.sorts = ap (λ x. length x.ids) (sym known.scope.variables) ∙ known.usable.even in
        omega (arith, within, many, sizes-many s)

-- all places of a list, one after the other
pub all_places : {X : Type 0} (xs : List X) (d : X) → map (λ i. get_or xs i d) (range_with_len 0 (length xs)) ≡ xs
all_places {X} xs d = front (length xs) (omega arith) ∙ take_all (length xs) xs (omega arith)
  where
    front : (n : ℕ) → n ≤ length xs → map (λ i. get_or xs i d) (range_with_len 0 n) ≡ take n xs
    front zero le = refl
    front (suc n) le =
        let e : n + 1 ≡ suc n = omega arith in
        ap (λ m. map (λ i. get_or xs i d) (range_with_len 0 m)) (sym e)
        ∙ map-range_with_len_more (λ i. get_or xs i d) 0 n n (omega arith)
        ∙ ap (λ ys. ys ++ get_or xs n d ∷ []) (front n (omega (arith, le)))
        ∙ sym (take_more xs n d (omega (arith, le)))
        ∙ ap (λ m. take m xs) e

-- an order doesn't matter
all-permutation : {X : Type 0} (p : X → Bool) (xs ys : List X) → IsPermutation xs ys → list_all p xs ≡ list_all p ys
all-permutation {X} p xs ys moved = sym (other xs) ∙ ap not (list_any-IsPermutation (λ x. not (p x)) xs ys moved) ∙ other ys
  where
    step : (b c d : Bool) → not d ≡ c → not (not b || d) ≡ b && c
    step true c d e = e
    step false c d e = refl

    other : (zs : List X) → not (list_any (λ x. not (p x)) zs) ≡ list_all p zs
    other [] = refl
    other (z ∷ zs) = step (p z) (list_all p zs) (list_any (λ x. not (p x)) zs) (other zs)

pub are_tests : (s : Signature) (c : CGuard) (variables : List ℕ) (made sorted : List Test)
    → All (IsTest (is_part_true_at s c) (length (compiled_parts c)) (all_sizes s) variables) made → map (λ t. t.part) made ≡ range_with_len 0 (length (compiled_parts c)) → IsPermutation made sorted
    → AreTests (is_part_true_at s c) (length (compiled_parts c)) (is_true_at s c) (all_sizes s) variables sorted
are_tests s c variables made sorted each all moved = record {
  each = All-permutation (IsTest (is_part_true_at s c) (length (compiled_parts c)) (all_sizes s) variables) made sorted moved each;
  together = λ b binds.
      sym (all-permutation (λ test. is_part_true_at s c test.part b) made sorted moved)
      ∙ sym (list_all-map (λ part. is_part_true_at s c part b) (λ t. t.part) made)
      ∙ ap (list_all (λ part. is_part_true_at s c part b)) all
      ∙ sym (list_all-map (λ d. is_true_at s d b) (part_at c) (range_with_len 0 (length (compiled_parts c))))
      ∙ ap (list_all (λ d. is_true_at s d b)) (all_places (compiled_parts c) c)
      ∙ parts-true s c b;
}

pub parts_more : (tests : List Test) (needs part : ℕ) → map (λ t. t.part) tests ≡ range_with_len 0 part
    → map (λ t. t.part) (tests ++ record { needs = needs; part = part } ∷ []) ≡ range_with_len 0 (part + 1)
parts_more tests needs part before =
    map-append (λ t. t.part) tests (record { needs = needs; part = part } ∷ [])
    ∙ ap (λ xs. xs ++ part ∷ []) before
    ∙ sym (range_more part)
  where
    range_more : (n : ℕ) → range_with_len 0 (n + 1) ≡ range_with_len 0 n ++ n ∷ []
    range_more n = sym (map-id (range_with_len 0 (n + 1))) ∙ map-range_with_len_more (λ i. i) 0 n n (omega arith) ∙ ap (λ xs. xs ++ n ∷ []) (map-id (range_with_len 0 n))
