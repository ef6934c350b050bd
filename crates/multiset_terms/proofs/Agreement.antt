-- Colours and their places in the list of a sort's colours.
use Rattle.std.proofs.Common.{◌≡◌, ℕ, ◌+◌, ◌*◌, ◌/◌, ◌%◌, ◌<◌, inl, inr, true, List, [], ◌∷◌, length, get_or, refl, sym, ap, ◌∙◌, arith, Some}
use Rattle.std.specs.Prelude.{nat_eq, if◌then◌else◌}
use Rattle.std.specs.List.{slice_get}
use Rattle.std.proofs.Math.Nat.{mul_assoc, add-mul, mul-add-mod_self_right, mod-eq_of_lt}
use Rattle.std.proofs.lemmas.Bool.{cases_eq, cases_Bool}
use Rattle.std.proofs.lemmas.Bool.Decides.{nat_tests}
use Rattle.std.proofs.lemmas.List.Sums.{position_or_len_is}
use Rattle.std.proofs.lemmas.Nat.{div-mul-add}
use Rattle.std.proofs.lemmas.Option.{slice_get_within, get_or_from_slice_get, slice_get-get_or}
use Rattle.colour_sorts.specs.declared.sorts.Colour.{Colour}
use Rattle.colour_sorts.specs.Colours.{tuples}
use Rattle.colour_sorts.specs.Places.{before_of, next_of}
use Rattle.colour_sorts.proofs.PlacesIn.{some-is-some}
use Rattle.colour_sorts.proofs.Tuples.{length-tuples, split-tuples}
use Rattle.multiset_terms.specs.Laws.{AreComponents, ColoursAgree, IsOnce}
use Rattle.multiset_terms.specs.Trees.{Reading, once, product_count, tuple_count}
use Rattle.multiset_terms.specs.Values.{Meaning, counts_at, is_same, place_in, stepped}
use Rattle.multiset_terms.proofs.SameColour.{told, own}

-- two places have one colour exactly where they are one place
pub count-agrees : (cs : List Colour) → IsOnce cs → (p i : ℕ) (a c : Colour) → slice_get cs p ≡ Some a → slice_get cs i ≡ Some c
    → once (nat_eq p i) ≡ (if is_same a c then 1 else 0)
count-agrees cs distinct p i a c here there =
    elim (cases_eq p i) [
      | inl same ↦
          let one : a ≡ c = some-is-some a c (sym here ∙ ap (slice_get cs) same ∙ there) in
          let test : is_same a c ≡ true = ap (is_same a) (sym one) ∙ own a in
          let first : once (nat_eq p i) ≡ 1 = grind (arith, nat_tests) in
          first ∙ rw test refl
      | inr apart ↦
          let first : once (nat_eq p i) ≡ 0 = grind (arith, nat_tests) in
          elim (cases_Bool (is_same a c)) [
            | inl test ↦ absurd (apart (distinct p i a here (there ∙ ap Some (sym (told a c test)))))
            | inr test ↦ first ∙ rw test refl
          ]
    ]

-- the place that is found is the place
pub place-agrees : (cs : List Colour) → IsOnce cs → (p : ℕ) (c : Colour) → slice_get cs p ≡ Some c → place_in cs c ≡ p
place-agrees cs distinct p c here =
    let within = slice_get_within cs p c here in
    position_or_len_is (is_same c) cs p c (omega (arith, within))
    (λ k before. let other = slice_get-get_or cs k c (omega (arith, within)) in
    elim (cases_Bool (is_same c (get_or cs k c))) [
      | inl test ↦ let same : k ≡ p = distinct k p c (other ∙ ap Some (sym (told c (get_or cs k c) test))) here in absurd (omega (arith, same, before))
      | inr test ↦ test
    ])
    (λ _. ap (is_same c) (get_or_from_slice_get cs p c c here) ∙ own c)

-- a step from a place leads to the place of the colour that a step leads to
pub step-agrees : (step : ℕ → ℕ → ℕ) (cs : List Colour) → IsOnce cs → (p : ℕ) (c : Colour) → slice_get cs p ≡ Some c → step (length cs) p < length cs
    → slice_get cs (step (length cs) p) ≡ Some (stepped step cs c)
step-agrees step cs distinct p c here within =
    slice_get-get_or cs (step (length cs) p) c within
    ∙ ap (λ at. Some (get_or cs (step (length cs) at) c)) (sym (place-agrees cs distinct p c here))

pub split-place : (f s n q r : ℕ) → f * (s * n) + (q * n + r) ≡ (f * s + q) * n + r
split-place f s n q r = ap (λ x. x + (q * n + r)) (sym (mul_assoc f s n)) ∙ regroup (f * s * n) (q * n) r ∙ ap (λ x. x + r) (sym (add-mul (f * s) q n))
  where
    regroup : (a b c : ℕ) → a + (b + c) ≡ a + b + c
    regroup a b c = omega arith

-- the counts of tuples behind a front
pub tuples-agree : (lists : List (List Colour)) (ms : List Meaning) (rs : List Reading) (fronts : ℕ → ℕ) (front w : ℕ) (t : List Colour)
    → AreComponents lists ms rs → slice_get (tuples lists) w ≡ Some t
    → tuple_count fronts rs (front * length (tuples lists) + w) ≡ fronts front * counts_at ms t
tuples-agree [] [] [] fronts front w t known here =
    let within = slice_get_within (tuples []) w t here in
    let first : w ≡ 0 = omega (arith, within) in
    let same : [] ≡ t = some-is-some [] t (sym (ap (slice_get (tuples [])) first) ∙ here) in
    rw (first, ← same) (ap fronts (plain front) ∙ sym (times-one (fronts front)))
  where
    plain : (n : ℕ) → n * 1 + 0 ≡ n
    plain n = omega arith

    times-one : (n : ℕ) → n * 1 ≡ n
    times-one n = omega arith
tuples-agree (colours ∷ lists) (m ∷ ms) (r ∷ rs) fronts front w t known here =
    let a = split-tuples colours lists w t here in
    let n = length (tuples lists) in
    let inside : a.q < r.size = (let b = slice_get_within colours a.q a.c a.first in omega (arith, b, known.0.size)) in
    let next : ℕ → ℕ = λ p. fronts (p / r.size) * r.count (p % r.size) in
    let place : front * length (tuples (colours ∷ lists)) + w ≡ (front * r.size + a.q) * n + a.r =
    ap (λ x. front * x + w) (length-tuples colours lists ∙ ap (λ s. s * n) (sym known.0.size)) ∙ ap (λ x. front * (r.size * n) + x) a.place ∙ split-place front r.size n a.q a.r in
    ap (tuple_count next rs) place
    ∙ tuples-agree lists ms rs next (front * r.size + a.q) a.r a.cs known.1 a.rest
    ∙ ap (λ x. x * counts_at ms a.cs) (ap (λ x. fronts x * r.count ((front * r.size + a.q) % r.size)) (div-mul-add front r.size a.q inside)
    ∙ ap (λ x. fronts front * r.count x) (mul-add-mod_self_right front r.size a.q ∙ mod-eq_of_lt inside)
    ∙ ap (λ x. fronts front * x) (known.0.counts a.q a.c a.first))
    ∙ mul_assoc (fronts front) (m.count a.c) (counts_at ms a.cs)
    ∙ ap (λ x. fronts front * counts_at (m ∷ ms) x) (sym a.whole)
tuples-agree [] [] (_ ∷ _) fronts front w t known here = absurd known
tuples-agree [] (_ ∷ _) rs fronts front w t known here = absurd known
tuples-agree (_ ∷ _) [] rs fronts front w t known here = absurd known
tuples-agree (_ ∷ _) (_ ∷ _) [] fronts front w t known here = absurd known

pub products-agree : (lists : List (List Colour)) (ms : List Meaning) (rs : List Reading) (at : ℕ) (t : List Colour)
    → AreComponents lists ms rs → slice_get (tuples lists) at ≡ Some t → product_count rs at ≡ counts_at ms t
products-agree lists ms rs at t known here =
    ap (product_count rs) (first at (length (tuples lists)))
    ∙ tuples-agree lists ms rs (λ p. once (nat_eq 0 p)) 0 at t known here
    ∙ one (counts_at ms t)
  where
    first : (n m : ℕ) → n ≡ 0 * m + n
    first n m = omega arith

    one : (n : ℕ) → 1 * n ≡ n
    one n = omega arith

next-within : (n p : ℕ) → p < n → next_of n p < n
next-within n p h = grind (arith, nat_tests)

before-within : (n p : ℕ) → p < n → before_of n p < n
before-within n p h = grind (arith, nat_tests)

pub lists-agree : (cs : List Colour) → IsOnce cs → ColoursAgree cs
lists-agree cs distinct = record {
  counts = count-agrees cs distinct;
  places = place-agrees cs distinct;
  next = λ p c here. step-agrees next_of cs distinct p c here (next-within (length cs) p (slice_get_within cs p c here));
  before = λ p c here. step-agrees before_of cs distinct p c here (before-within (length cs) p (slice_get_within cs p c here));
}
