-- Sums over the place instances that names stand for.
use Rattle.std.proofs.Common.{◌≡◌, ℕ, Bool, true, false, cond, List, [], ◌∷◌, map, filter, sum_by, ℤ, pos, negsuc, ◌+ℤ◌, ◌*ℤ◌, refl, ap, sym, ◌∙◌, arith, slice_index}
use Rattle.std.specs.List.{range_with_len}
use Rattle.std.proofs.lemmas.Int.{ints}
use Rattle.std.proofs.lemmas.List.Sums.{sum_by-cons}
use Rattle.pt_net.specs.Numbering.{NetNumbering}
use Rattle.pt_net.specs.Systems.{NetSystem, places}
use Rattle.reductions.specs.Numbers.{numbers}
use Rattle.line_words.specs.declared.items.Weight.{Weight}
use Rattle.cert_model.specs.Sums.{sum_of, products}
use Rattle.cert_model.proofs.Weights.{add_column, mul_zero, products-zero}
use Rattle.cert_names.specs.Numbers.{is_named}
use Rattle.cert_names.specs.Sections.{coefficient, share}
use Rattle.cert_names.specs.Meanings.{weighted_sum}

abbrev pub unit : Bool → ℤ
unit b = cond b (pos 1) (pos 0)

unit_more : (b : Bool) (m : ℕ → ℕ) (p : ℕ) (qs : List ℕ) (xs : List ℤ) → sum_of xs ≡ pos (sum_by m qs) → sum_of ((unit b *ℤ pos (m p)) ∷ xs) ≡ pos (sum_by m (cond b (p ∷ qs) qs))
unit_more true m p qs xs rest = omega (arith, ints, rest, sum_by-cons m p qs)
unit_more false m p qs xs rest = omega (arith, ints, rest)

-- a sum with the coefficient 1 where a test passes
pub unit_sum : (test : ℕ → Bool) (m : ℕ → ℕ) (ps : List ℕ) → sum_of (products ps (λ p. unit (test p)) m) ≡ pos (sum_by m (filter test ps))
unit_sum test m [] = refl
unit_sum test m (p ∷ ps) = unit_more (test p) m p (filter test ps) (products ps (λ q. unit (test q)) m) (unit_sum test m ps)

pub same_products : (ps : List ℕ) (y z : ℕ → ℤ) (m : ℕ → ℕ) → ((p : ℕ) → y p ≡ z p) → products ps y m ≡ products ps z m
same_products [] y z m same = refl
same_products (p ∷ ps) y z m same = ap (λ v. (v *ℤ pos (m p)) ∷ products ps y m) (same p) ∙ ap (λ vs. (z p *ℤ pos (m p)) ∷ vs) (same_products ps y z m same)

times_one : (v : ℤ) → v ≡ v *ℤ pos 1
times_one (pos n) = omega (arith, ints)
times_one (negsuc n) = omega (arith, ints)

shared : (b : Bool) (v : ℤ) → cond b v (pos 0) ≡ v *ℤ unit b
shared true v = times_one v
shared false v = sym (mul_zero v)

one_more : (v rest : ℤ) (b : Bool) (xs : List ℤ) → sum_of xs ≡ rest → sum_of (cond b v (pos 0) ∷ xs) ≡ rest +ℤ (v *ℤ unit b)
one_more v rest b xs is = omega (arith, ints, is, shared b v)

-- the coefficients times the counts are the weights times the tokens
pub weighted_is : (l : NetNumbering) (net : NetSystem) (weights : List Weight) (marking : List ℕ)
    → sum_of (products (range_with_len 0 (places net)) (coefficient l weights) (slice_index marking)) ≡ weighted_sum l net weights marking
unfolding numbers
weighted_is l net [] marking = products-zero (range_with_len 0 (places net)) (slice_index marking)
weighted_is l net (w ∷ ws) marking =
    let ps = range_with_len 0 (places net) in
    let m : ℕ → ℕ = slice_index marking in
    let own : ℕ → ℤ = λ p. unit (is_named l w.place p) in
    let split = ap sum_of (same_products ps (coefficient l (w ∷ ws)) (λ p. coefficient l ws p +ℤ (w.value *ℤ own p)) m (λ p. one_more w.value (coefficient l ws p) (is_named l w.place p) (map (share l p) ws) refl)) in
    let both = add_column w.value (coefficient l ws) own ps m in
    let rest = weighted_is l net ws marking in
    let here = ap (λ z. w.value *ℤ z) (unit_sum (is_named l w.place) m ps) in
    omega (arith, ints, split, both, rest, here)
