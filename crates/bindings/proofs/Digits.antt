-- Bindings are the digits of their numbers.
use Rattle.std.proofs.Common.{◌≡◌, ℕ, zero, suc, ◌+◌, ◌*◌, ◌/◌, ◌%◌, ◌<◌, List, [], ◌∷◌, map, take, get_or, length, refl, sym, ap, subst, ◌∙◌, arith, length-append, Some}
use Rattle.std.specs.Prelude.{slice_index}
use Rattle.std.proofs.Math.Nat.{div-lt_iff_lt-mul, mod-lt, mul-zero, zero-mul}
use Rattle.std.proofs.lemmas.List.{length-map, length-take-le}
use Rattle.std.proofs.lemmas.List.Concat.{flat_map-cons, get_or-flat_map}
use Rattle.std.proofs.lemmas.List.FromFn.{length-range_with_len, get_or-range_with_len}
use Rattle.std.proofs.lemmas.Nat.{div-add-mod', div-mul-add, mod-mul-add, row_fits}
use Rattle.std.proofs.lemmas.Option.{get_or_from_slice_get, slice_get-get_or, slice_get-map, slice_get_within}
use Rattle.std.specs.List.{flat_map, slice_get, range_with_len}
use Rattle.std.specs.Option.{option_map}
use Rattle.bindings.specs.Listed.{IsBinding, bindings, digits, number_of, product}

abbrev extended : List (List ℕ) → ℕ → List (List ℕ)
extended bs first = map (λ rest. first ∷ rest) bs

length-extended : (bs : List (List ℕ)) (firsts : List ℕ) → length (flat_map (extended bs) firsts) ≡ length firsts * length bs
length-extended bs [] = sym (zero-mul (length bs))
length-extended bs (c ∷ cs) =
    ap length (flat_map-cons (extended bs) c cs)
    ∙ length-append (map (λ rest. c ∷ rest) bs) _
    ∙ (let here = length-map bs (λ rest. c ∷ rest) in
    let there = length-extended bs cs in
    grind (arith, here, there))

pub length-bindings : (sizes : List ℕ) → length (bindings sizes) ≡ product sizes
length-bindings [] = refl
length-bindings (size ∷ sizes) =
    length-extended (bindings sizes) (range_with_len 0 size)
    ∙ ap (λ n. n * length (bindings sizes)) (length-range_with_len 0 size)
    ∙ ap (λ n. size * n) (length-bindings sizes)

-- the place of a binding is its first value times the number of the rests, and the place of its rest
place-bindings : (size : ℕ) (sizes : List ℕ) (q r : ℕ) (b : List ℕ) → q < size → slice_get (bindings sizes) r ≡ Some b
    → slice_get (bindings (size ∷ sizes)) (q * length (bindings sizes) + r) ≡ Some (q ∷ b)
place-bindings size sizes q r b small rest =
    let bs = bindings sizes in
    let firsts = range_with_len 0 size in
    let many : length firsts ≡ size = length-range_with_len 0 size in
    let qb : q < length firsts = omega (arith, many, small) in
    let rb : r < length bs = slice_get_within bs r b rest in
    let here : get_or firsts q 0 ≡ q = get_or-range_with_len 0 size q 0 small ∙ omega arith in
    let inner : slice_get (extended bs q) r ≡ Some (q ∷ b) = slice_get-map (λ t. q ∷ t) bs r ∙ ap (option_map (λ t. q ∷ t)) rest in
    let long : r < length (extended bs (get_or firsts q 0)) = omega (arith, rb, length-map bs (λ t. get_or firsts q 0 ∷ t)) in
    let start : length (flat_map (extended bs) (take q firsts)) ≡ q * length bs =
    length-extended bs (take q firsts) ∙ ap (λ n. n * length bs) (length-take-le q firsts (omega (arith, qb))) in
    let value : get_or (flat_map (extended bs) firsts) (q * length bs + r) [] ≡ q ∷ b =
    ap (λ n. get_or (flat_map (extended bs) firsts) (n + r) []) (sym start)
    ∙ get_or-flat_map (extended bs) firsts q r 0 [] qb long
    ∙ ap (λ x. get_or (extended bs x) r []) here
    ∙ get_or_from_slice_get (extended bs q) r (q ∷ b) [] inner in
    let fits : q * length bs + r < length (flat_map (extended bs) firsts) =
    omega (arith, length-extended bs firsts, rb, row_fits q (length bs) (length firsts) (length bs) qb (omega arith)) in
    slice_get-get_or (flat_map (extended bs) firsts) (q * length bs + r) [] fits ∙ ap Some value

-- the first digit of a number and what is left of it
pub record IsSplit (size rests number : ℕ) : Type 0 where
  pub small : number / rests < size
  pub remains : number % rests < rests
  pub whole : (number / rests) * rests + number % rests ≡ number

pub split : (size rests number : ℕ) → number < size * rests → IsSplit size rests number
split size zero number within = absurd (omega (arith, within, mul-zero size))
split size (suc n) number within = record {
  small = (div-lt_iff_lt-mul (omega arith)).1 (omega (arith, within));
  remains = mod-lt number (omega arith);
  whole = div-add-mod' number (suc n);
}

pub digits-stand : (sizes : List ℕ) (number : ℕ) → number < product sizes → slice_get (bindings sizes) number ≡ Some (digits sizes number)
digits-stand [] zero within = refl
digits-stand [] (suc number) within = absurd (omega (arith, within))
digits-stand (size ∷ sizes) number within =
    let rests = product sizes in
    let parts = split size rests number within in
    let rest = digits-stand sizes (number % rests) parts.remains in
    let place : (number / rests) * length (bindings sizes) + number % rests ≡ number =
    ap (λ n. (number / rests) * n + number % rests) (length-bindings sizes) ∙ parts.whole in
    ap (slice_get (bindings (size ∷ sizes))) (sym place)
    ∙ place-bindings size sizes (number / rests) (number % rests) (digits sizes (number % rests)) parts.small rest

pub number-digits : (sizes : List ℕ) (number : ℕ) → number < product sizes → number_of sizes (digits sizes number) ≡ number
number-digits [] number within = omega (arith, within)
number-digits (size ∷ sizes) number within =
    let rests = product sizes in
    let parts = split size rests number within in
    ap (λ n. (number / rests) * rests + n) (number-digits sizes (number % rests) parts.remains) ∙ parts.whole

-- a binding by its first value and its rest
pub binding-more : (size first : ℕ) (sizes rest : List ℕ) → first < size → IsBinding sizes rest → IsBinding (size ∷ sizes) (first ∷ rest)
binding-more size first sizes rest small known = record { many = ap suc known.many; each = each }
  where
    each : (at : ℕ) → at < length (size ∷ sizes) → slice_index (first ∷ rest) at < slice_index (size ∷ sizes) at
    each zero within = small
    each (suc at) within = known.each at (omega (arith, within))

pub binding-less : (size first : ℕ) (sizes rest : List ℕ) → IsBinding (size ∷ sizes) (first ∷ rest) → (first < size) × IsBinding sizes rest
binding-less size first sizes rest known = (
  known.each 0 (omega arith),
  record { many = (let many = known.many in omega (arith, many)); each = λ at within. known.each (suc at) (omega (arith, within)) },
)

pub digits-bind : (sizes : List ℕ) (number : ℕ) → number < product sizes → IsBinding sizes (digits sizes number)
digits-bind [] number within = record { many = refl; each = λ at none. absurd (omega (arith, none)) }
digits-bind (size ∷ sizes) number within =
    let rests = product sizes in
    let parts = split size rests number within in
    binding-more size (number / rests) sizes (digits sizes (number % rests)) parts.small (digits-bind sizes (number % rests) parts.remains)

-- the number of a binding is one of a binding, and its digits are the binding
pub record IsSpelled (sizes binding : List ℕ) (number : ℕ) : Type 0 where
  pub below : number < product sizes
  pub same : digits sizes number ≡ binding

pub spelled : (sizes binding : List ℕ) → IsBinding sizes binding → IsSpelled sizes binding (number_of sizes binding)
spelled [] [] known = record { below = omega arith; same = refl }
spelled [] (first ∷ rest) known = absurd (let many = known.many in omega (arith, many))
spelled (size ∷ sizes) [] known = absurd (let many = known.many in omega (arith, many))
spelled (size ∷ sizes) (first ∷ rest) known =
    let parts = binding-less size first sizes rest known in
    let behind = spelled sizes rest parts.1 in
    let rests = product sizes in
    let number = number_of sizes rest in
    let q : (first * rests + number) / rests ≡ first = div-mul-add first rests number behind.below in
    let r : (first * rests + number) % rests ≡ number = mod-mul-add first rests number behind.below in
    record {
      below = omega (arith, behind.below, row_fits first rests size rests parts.0 (omega arith));
      same = ap (λ n. n ∷ digits sizes ((first * rests + number) % rests)) q ∙ ap (λ n. first ∷ digits sizes n) r ∙ ap (λ b. first ∷ b) behind.same;
    }

pub number-stands : (sizes binding : List ℕ) → IsBinding sizes binding → slice_get (bindings sizes) (number_of sizes binding) ≡ Some binding
number-stands sizes binding known =
    let there = spelled sizes binding known in
    digits-stand sizes (number_of sizes binding) there.below ∙ ap Some there.same

pub found-binds : (sizes : List ℕ) (number : ℕ) (binding : List ℕ) → slice_get (bindings sizes) number ≡ Some binding → IsBinding sizes binding
found-binds sizes number binding found =
    let within : number < product sizes = (let here = slice_get_within (bindings sizes) number binding found in omega (arith, here, length-bindings sizes)) in
    let same : digits sizes number ≡ binding = some-is-some (digits sizes number) binding (sym (digits-stand sizes number within) ∙ found) in
    subst (IsBinding sizes) same (digits-bind sizes number within)
  where
    some-is-some : (x y : List ℕ) → Some x ≡ Some y → x ≡ y
    some-is-some x y e = cc
