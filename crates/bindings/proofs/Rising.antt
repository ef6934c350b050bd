-- Bindings stand in lexicographic order.
use Rattle.std.proofs.Common.{◌≡◌, ℕ, zero, suc, ◌+◌, ◌*◌, ◌/◌, ◌%◌, ◌<◌, ◌≤◌, ◌⊎◌, inl, inr, List, [], ◌∷◌, get_or, sym, ap, subst, ◌∙◌, arith, Less, Equal}
use Rattle.std.specs.Cmp.{nat_cmp_is}
use Rattle.std.specs.Cmp.Lexicographic.{slice_cmp}
use Rattle.std.specs.List.{AllPairs}
use Rattle.std.specs.Ordering.{is_lt, nat_cmp, ordering_then}
use Rattle.std.proofs.Math.Nat.{add-mul, div-lt_iff_lt-mul, lt-div-mul-add, mul-zero, one-mul}
use Rattle.std.proofs.lemmas.Bool.{cases_lt}
use Rattle.std.proofs.lemmas.Nat.{div-add-mod'}
use Rattle.std.proofs.lemmas.Option.{get_or_from_slice_get}
use Rattle.bindings.specs.Listed.{IsBefore, bindings, digits, product}
use Rattle.bindings.proofs.Digits.{digits-stand, length-bindings, split}

-- quotients rise with the numbers, and where they are the same the remainders do
record IsOrdered (c m n : ℕ) : Type 0 where
  high : m / c ≤ n / c
  low : n / c ≤ m / c → m % c < n % c

ordered : (c m n : ℕ) → 0 < c → m < n → IsOrdered c m n
ordered c m n some before =
    let next : (n / c + 1) * c ≡ (n / c) * c + c = add-mul (n / c) 1 c ∙ ap (λ k. (n / c) * c + k) (one-mul c) in
    let under : m < (n / c + 1) * c = (let past = lt-div-mul-add {a = n} some in omega (arith, next, past, before)) in
    let quotient : m / c < n / c + 1 = (div-lt_iff_lt-mul some).1 under in
    record {
      high = omega (arith, quotient);
      low = λ back.
          (let same : n / c ≡ m / c = omega (arith, back, quotient) in
          omega (arith, ap (λ q. q * c) same, div-add-mod' m c, div-add-mod' n c, before));
    }

pub digits-rise : (sizes : List ℕ) (m n : ℕ) → m < n → n < product sizes → IsBefore (digits sizes m) (digits sizes n)
digits-rise [] m n before within = absurd (omega (arith, before, within))
digits-rise (size ∷ sizes) m n before within = decide (λ lower. digits-rise sizes (m % product sizes) (n % product sizes) lower (split size (product sizes) n within).remains) (cases_lt (m / c) (n / c))
  where
    c : ℕ
    c = product sizes

    some : 0 < product sizes
    some = positive (product sizes) within
      where
        positive : (c : ℕ) → n < size * c → 0 < c
        positive zero h = absurd (omega (arith, h, mul-zero size))
        positive (suc k) h = omega arith

    decide : (m % c < n % c → IsBefore (digits sizes (m % c)) (digits sizes (n % c))) → (m / c < n / c) ⊎ (n / c ≤ m / c) → IsBefore (digits (size ∷ sizes) m) (digits (size ∷ sizes) n)
    decide behind (inl lower) = ap (λ o. is_lt (ordering_then o (slice_cmp nat_cmp (digits sizes (m % c)) (digits sizes (n % c))))) (sym (nat_cmp_is (m / c) (n / c) Less lower))
    decide behind (inr back) =
        let parts = ordered c m n some before in
        let same : m / c ≡ n / c = (let high = parts.high in omega (arith, high, back)) in
        ap (λ o. is_lt (ordering_then o (slice_cmp nat_cmp (digits sizes (m % c)) (digits sizes (n % c))))) (sym (nat_cmp_is (m / c) (n / c) Equal same)) ∙ behind (parts.low back)

pub bindings-rise : (sizes : List ℕ) → AllPairs IsBefore (bindings sizes)
bindings-rise sizes i j d before within =
    let many = length-bindings sizes in
    let first = get_or_from_slice_get (bindings sizes) i (digits sizes i) d (digits-stand sizes i (omega (arith, many, before, within))) in
    let second = get_or_from_slice_get (bindings sizes) j (digits sizes j) d (digits-stand sizes j (omega (arith, many, within))) in
    subst (λ a. IsBefore a (get_or (bindings sizes) j d)) (sym first) (subst (IsBefore (digits sizes i)) (sym second) (digits-rise sizes i j before (omega (arith, many, within))))
