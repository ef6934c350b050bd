-- The variables are bound from the last one on.
use Rattle.std.proofs.Common.{◌≡◌, ℕ, zero, suc, ◌+◌, ◌*◌, ◌/◌, ◌%◌, ◌<◌, ◌≤◌, List, [], ◌∷◌, drop, get_or, set, length, sym, ap, subst, ◌∙◌, arith}
use Rattle.std.proofs.Math.Nat.{add-mul, mod-lt, mul_assoc, mul-zero, zero-mul}
use Rattle.std.proofs.lemmas.List.{drop_more, length-set}
use Rattle.std.proofs.lemmas.List.{drop-set}
use Rattle.std.proofs.lemmas.Nat.{div-add-mod'}
use Rattle.bindings.specs.Listed.{IsBinding, digits, number_of, product}
use Rattle.bindings.proofs.Digits.{binding-more, spelled}

-- the variables from a place on are bound, and what is left of the number is that of the others
pub record IsBound (sizes indices : List ℕ) (at rest number : ℕ) : Type 0 where
  pub many : length indices ≡ length sizes
  pub bound : at ≤ length sizes
  pub whole : rest * product (drop at sizes) + number_of (drop at sizes) (drop at indices) ≡ number
  pub binds : IsBinding (drop at sizes) (drop at indices)

pub each-some : (sizes : List ℕ) (at number : ℕ) → number < product sizes → at < length sizes → 0 < get_or sizes at 0
each-some [] at number within there = absurd (omega (arith, there))
each-some (zero ∷ sizes) at number within there = absurd (omega (arith, within, zero-mul (product sizes)))
each-some (suc size ∷ sizes) zero number within there = omega arith
each-some (suc size ∷ sizes) (suc at) number within there = each-some sizes at 0 (positive (product sizes) within) (omega (arith, there))
  where
    positive : (c : ℕ) → number < suc size * c → 0 < c
    positive zero h = absurd (omega (arith, h, mul-zero (suc size)))
    positive (suc k) h = omega arith

-- the last digit of what is left
moved : (rest size rests number : ℕ) → (rest / size) * (size * rests) + ((rest % size) * rests + number) ≡ rest * rests + number
moved rest size rests number =
    let one = mul_assoc (rest / size) size rests in
    let two = add-mul ((rest / size) * size) (rest % size) rests in
    let three = ap (λ n. n * rests) (div-add-mod' rest size) in
    omega (arith, one, two, three)

pub one-more : (sizes indices : List ℕ) (at next rest number : ℕ) → next ≡ at + 1 → number < product sizes → IsBound sizes indices next rest number → 0 < next
    → IsBound sizes (set indices at (rest % get_or sizes at 0)) at (rest / get_or sizes at 0) number
one-more sizes indices at next rest number step within known some =
    let size = get_or sizes at 0 in
    let digit = rest % size in
    let there : at < length sizes = (let bound = known.bound in omega (arith, bound, step)) in
    let listed : drop at sizes ≡ size ∷ drop (at + 1) sizes = drop_more sizes at 0 there in
    let made : drop at (set indices at digit) ≡ digit ∷ drop (at + 1) indices = drop-set indices at digit (let many = known.many in omega (arith, many, there)) in
    let behind : IsBinding (drop (at + 1) sizes) (drop (at + 1) indices) = subst (λ n. IsBinding (drop n sizes) (drop n indices)) step known.binds in
    let whole : rest * product (drop (at + 1) sizes) + number_of (drop (at + 1) sizes) (drop (at + 1) indices) ≡ number =
    subst (λ n. rest * product (drop n sizes) + number_of (drop n sizes) (drop n indices) ≡ number) step known.whole in
    record {
      many = length-set indices at digit ∙ known.many;
      bound = omega (arith, there);
      whole = ap (λ xs. (rest / size) * product xs + number_of xs (drop at (set indices at digit))) listed
          ∙ ap (λ xs. (rest / size) * (size * product (drop (at + 1) sizes)) + number_of (size ∷ drop (at + 1) sizes) xs) made
          ∙ moved rest size (product (drop (at + 1) sizes)) (number_of (drop (at + 1) sizes) (drop (at + 1) indices))
          ∙ whole;
      binds = subst (λ xs. IsBinding xs (drop at (set indices at digit))) (sym listed)
          (subst (IsBinding (size ∷ drop (at + 1) sizes)) (sym made)
          (binding-more size digit (drop (at + 1) sizes) (drop (at + 1) indices) (mod-lt rest (each-some sizes at number within there)) behind));
    }

pub whole-binding : (sizes indices : List ℕ) (at rest number : ℕ) → at ≡ 0 → number < product sizes → IsBound sizes indices at rest number → indices ≡ digits sizes number
whole-binding sizes indices at rest number none within known =
    let all : IsBound sizes indices 0 rest number = subst (λ n. IsBound sizes indices n rest number) none known in
    let there = spelled sizes indices all.binds in
    let same : number_of sizes indices ≡ number = only rest all.whole in
    sym there.same ∙ ap (digits sizes) same
  where
    only : (rest : ℕ) → rest * product sizes + number_of sizes indices ≡ number → number_of sizes indices ≡ number
    only zero whole = omega (arith, whole, zero-mul (product sizes))
    only (suc rest) whole = absurd (omega (arith, whole, within, add-mul rest 1 (product sizes)))
