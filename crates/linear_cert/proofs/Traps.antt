-- What a trap has at the initial marking is in range.
use Rattle.std.proofs.Common.{◌≡◌, ℕ, zero, suc, ◌+◌, ◌*◌, ◌<◌, ◌≤◌, ◌^◌, Bool, true, false, cond, List, [], ◌∷◌, ◌++◌, All, length, slice_index, ℤ, pos, negsuc, ◌*ℤ◌, refl, ap, arith, nat_le}
use Rattle.std.specs.Prelude.{unsigned_abs}
use Rattle.std.specs.List.{range_with_len}
use Rattle.std.proofs.lemmas.Int.{ints}
use Rattle.std.proofs.lemmas.Bool.Decides.{nat_tests}
use Rattle.wide_sums.specs.Total.{Total, total_of}
use Rattle.wide_sums.proofs.Totals.{total_of_push}
use Rattle.cert_model.specs.Sums.{is_wide, products}

one_or_none : (b : Bool) (n : ℕ) → unsigned_abs (cond b (pos 1) (pos 0) *ℤ pos n) ≤ n
one_or_none true n = omega (arith, ints)
one_or_none false n = omega (arith, ints)

trap_size : (ps : List ℕ) (has : ℕ → Bool) (m : ℕ → ℕ) → ((p : ℕ) → m p < 2 ^ 63)
    → (total_of (products ps (λ p. cond (has p) (pos 1) (pos 0)) m)).size ≤ length ps * 2 ^ 63
trap_size [] has m low = omega arith
trap_size (p ∷ ps) has m low = omega (arith, trap_size ps has m low, one_or_none (has p) (m p), low p)

pub low_count : (counts : List ℕ) → All (λ k. k < 2 ^ 63) counts → (p : ℕ) → slice_index counts p < 2 ^ 63
low_count [] low p = omega arith
low_count (k ∷ ks) low zero = low 0 0 (omega arith)
low_count (k ∷ ks) low (suc p) = low_count ks (λ i d within. low (suc i) d (omega arith)) p

length_range : (first n : ℕ) → length (range_with_len first n) ≡ n
length_range first zero = refl
length_range first (suc n) = omega (arith, length_range (first + 1) n)

not_wide : (n : ℕ) → n < 2 ^ 127 → nat_le (2 ^ 127) n ≡ false
not_wide n h = grind (arith, nat_tests)

pub trap_is_narrow : (n : ℕ) (has : ℕ → Bool) (m : ℕ → ℕ) → n < 2 ^ 32 → ((p : ℕ) → m p < 2 ^ 63)
    → is_wide (products (range_with_len 0 n) (λ p. cond (has p) (pos 1) (pos 0)) m ++ negsuc 0 ∷ []) ≡ false
trap_is_narrow n has m few low =
    let dense : List ℤ = products (range_with_len 0 n) (λ p. cond (has p) (pos 1) (pos 0)) m in
    let size = trap_size (range_with_len 0 n) has m low in
    let pushed : (total_of (dense ++ negsuc 0 ∷ [])).size ≡ (total_of dense).size + 1 = ap (λ (t : Total). t.size) (total_of_push dense (negsuc 0)) in
    not_wide (total_of (dense ++ negsuc 0 ∷ [])).size (omega (arith, size, length_range 0 n, pushed))
