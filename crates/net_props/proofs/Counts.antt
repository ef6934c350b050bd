-- What a comparison comes to on the place instances.
use Rattle.std.proofs.Common.{◌≡◌, ℕ, zero, suc, ◌+◌, ◌*◌, ◌<◌, cond, nat_eq, List, [], ◌∷◌, map, length, get_or, pos, ◌+ℤ◌, neg_ℤ, sum_by, arith, refl, ap, sym, ◌∙◌, Ok}
use Rattle.std.specs.Prelude.{slice_index}
use Rattle.std.specs.List.{range_with_len, count_by}
use Rattle.std.proofs.lemmas.Int.{ints}
use Rattle.std.proofs.lemmas.Bool.Decides.{nat_tests}
use Rattle.std.proofs.lemmas.List.{get_or-map}
use Rattle.std.proofs.lemmas.List.Sums.{sum_by-cons, sum_by-append}
use Rattle.pt_net.specs.Systems.{NetSystem, places}
use Rattle.reductions.proofs.Nets.{sum_by-map}
use Rattle.cert_model.specs.Sums.{sum_of}
use Rattle.cert_model.specs.Forms.{value_at}
use Rattle.cert_model.proofs.Weights.{sum_of-append, sum_of-neg}
use Rattle.cert_laws.specs.PlainNets.{plain}
use Rattle.net_firing.specs.Coloured.{ColouredNet, ColouredPlace}
use Rattle.net_firing.specs.Markings.{Marking, pairs, pairs_from, place_at, tokens}
use Rattle.net_firing.specs.Unfolding.{Flat, unfolding_of}
use Rattle.net_firing.proofs.Listed.{parts_of}
use Rattle.net_firing.proofs.Places.{many}
use Rattle.mcc_model.specs.declared.formulas.Count.{Count}
use Rattle.mcc_model.specs.declared.formulas.Count.TheVariants.{Number, Tokens}
use Rattle.net_props.specs.Properties.{value}
use Rattle.net_props.specs.Resolved.{weight, constants, difference}
use Rattle.net_props.proofs.Sums.{same_sum, no_sum, sum_both, sum_read, sum_difference}

-- the instances of one place among all
abbrev once : ℕ → (ℕ → ℕ → ℕ) → ℕ × ℕ → ℕ
once p count e = cond (nat_eq p e.0) 1 0 * count e.0 e.1

other : (p q n : ℕ) → p < q → cond (nat_eq p q) 1 0 * n ≡ 0
other p q n below = grind (arith, nat_tests)

later : (p q n : ℕ) → q < p → cond (nat_eq p q) 1 0 * n ≡ 0
later p q n above = grind (arith, nat_tests)

own : (p n : ℕ) → cond (nat_eq p p) 1 0 * n ≡ n
own p n = grind (arith, nat_tests)

of_row : (p first size : ℕ) (count : ℕ → ℕ → ℕ) → sum_by (once p count) (map (λ k. (first, k)) (range_with_len 0 size)) ≡ sum_by (λ k. cond (nat_eq p first) 1 0 * count first k) (range_with_len 0 size)
of_row p first size count = sum_by-map (once p count) (λ k. (first, k)) (range_with_len 0 size)

none_later : (p first : ℕ) (places : List ColouredPlace) (count : ℕ → ℕ → ℕ) → p < first → sum_by (once p count) (pairs_from first places) ≡ 0
none_later p first [] count below = refl
none_later p first (place ∷ places) count below =
    let row = of_row p first place.size count in
    let none = no_sum (λ k. cond (nat_eq p first) 1 0 * count first k) (range_with_len 0 place.size) (λ k. other p first (count first k) below) in
    let rest = none_later p (first + 1) places count (omega arith) in
    let both = sum_by-append (once p count) (map (λ k. (first, k)) (range_with_len 0 place.size)) (pairs_from (first + 1) places) in
    omega arith

of_place : (q first p : ℕ) (places : List ColouredPlace) (count : ℕ → ℕ → ℕ) → first + q ≡ p → sum_by (once p count) (pairs_from first places) ≡ sum_by (count p) (range_with_len 0 (place_at places q).size)
of_place q first p [] count at = refl
of_place zero first p (place ∷ places) count at =
    let here : first ≡ p = omega (arith, at) in
    let row = of_row p first place.size count in
    let all : sum_by (λ k. cond (nat_eq p first) 1 0 * count first k) (range_with_len 0 place.size) ≡ sum_by (count p) (range_with_len 0 place.size) =
    same_sum (λ k. cond (nat_eq p first) 1 0 * count first k) (count p) (range_with_len 0 place.size) (λ k. ap (λ (n : ℕ). cond (nat_eq p n) 1 0 * count n k) here ∙ own p (count p k)) in
    let rest = none_later p (first + 1) places count (omega arith) in
    let both = sum_by-append (once p count) (map (λ k. (first, k)) (range_with_len 0 place.size)) (pairs_from (first + 1) places) in
    omega arith
of_place (suc q) first p (place ∷ places) count at =
    let row = of_row p first place.size count in
    let none = no_sum (λ k. cond (nat_eq p first) 1 0 * count first k) (range_with_len 0 place.size) (λ k. later p first (count first k) (omega (arith, at))) in
    let rest = of_place q (first + 1) p places count (omega (arith, at)) in
    let both = sum_by-append (once p count) (map (λ k. (first, k)) (range_with_len 0 place.size)) (pairs_from (first + 1) places) in
    let whole : sum_by (once p count) (pairs_from first (place ∷ places)) ≡ sum_by (once p count) (pairs_from (first + 1) places) = omega arith in
    whole ∙ rest

-- each listed place once more
times_more : (i c n : ℕ) → (i + c) * n ≡ i * n + c * n
times_more i c n = omega arith

of_places : (net : ColouredNet) (count : ℕ → ℕ → ℕ) (ps : List ℕ)
    → sum_by (λ (e : ℕ × ℕ). count_by (λ p. nat_eq p e.0) ps * count e.0 e.1) (pairs net) ≡ sum_by (λ p. sum_by (count p) (range_with_len 0 (place_at net.places p).size)) ps
of_places net count [] = no_sum (λ (e : ℕ × ℕ). count_by (λ p. nat_eq p e.0) [] * count e.0 e.1) (pairs net) (λ e. omega arith)
of_places net count (p ∷ ps) =
    let split = sum_both (once p count) (λ (e : ℕ × ℕ). count_by (λ r. nat_eq r e.0) ps * count e.0 e.1) (λ (e : ℕ × ℕ). count_by (λ r. nat_eq r e.0) (p ∷ ps) * count e.0 e.1) (pairs net)
    (λ e. ap (λ n. n * count e.0 e.1) (sum_by-cons (λ r. cond (nat_eq r e.0) 1 0) p ps) ∙ times_more (cond (nat_eq p e.0) 1 0) (count_by (λ r. nat_eq r e.0) ps) (count e.0 e.1)) in
    let one = of_place p 0 p net.places count (omega arith) in
    let rest = of_places net count ps in
    let more = sum_by-cons (λ r. sum_by (count r) (range_with_len 0 (place_at net.places r).size)) p ps in
    omega arith

-- the number beside the tokens
abbrev pub base : Count → ℕ
base (Number n) = n
base (Tokens ps) = 0

base-is : (c : Count) → sum_of (constants c) ≡ pos (base c)
base-is (Number n) = omega (arith, ints)
base-is (Tokens ps) = refl

flat-at : (net : ColouredNet) (m : Marking) (q : ℕ) → q < length (pairs net) → slice_index (Flat net m) q ≡ tokens m (get_or (pairs net) q (0, 0)).0 (get_or (pairs net) q (0, 0)).1
flat-at net m q within = get_or-map (λ (e : ℕ × ℕ). tokens m e.0 e.1) (pairs net) q (0, 0) 0 within

pub value-is : (net : ColouredNet) (m : Marking) (n : ℕ) (c : Count) → n ≡ length (pairs net) → value net m c ≡ base c + sum_by (λ q. weight net c q * slice_index (Flat net m) q) (range_with_len 0 n)
value-is net m n (Number k) long = let none = no_sum (λ q. 0 * slice_index (Flat net m) q) (range_with_len 0 n) (λ q. omega arith) in omega arith
value-is net m n (Tokens ps) long =
    let read = sum_read (λ q. weight net (Tokens ps) q * slice_index (Flat net m) q) (λ (e : ℕ × ℕ). count_by (λ p. nat_eq p e.0) ps * tokens m e.0 e.1) (pairs net) n (0, 0) long
    (λ q low. ap (λ k. weight net (Tokens ps) q * k) (flat-at net m q (omega arith))) in
    let all = of_places net (tokens m) ps in
    omega arith

pub as_many : (net : ColouredNet) (u : NetSystem) → unfolding_of net ≡ Ok u → places u ≡ length (pairs net)
as_many net u e = ap length (sym (parts_of net u e).initial) ∙ many net (λ p k. (place_at net.places p).initial k)

pub difference-is : (net : ColouredNet) (u : NetSystem) (m : Marking) (a b : Count) → unfolding_of net ≡ Ok u
    → value_at (plain u) (difference net a b) (slice_index (Flat net m)) ≡ pos (value net m b) +ℤ neg_ℤ (pos (value net m a))
difference-is net u m a b e =
    let long = as_many net u e in
    let sums = sum_difference (range_with_len 0 (places u)) (weight net b) (weight net a) (slice_index (Flat net m)) in
    let right = value-is net m (places u) b long in
    let left = value-is net m (places u) a long in
    let parts = sum_of-append (constants b) (map neg_ℤ (constants a)) in
    let negated = sum_of-neg (constants a) in
    let one = base-is b in
    let other = base-is a in
    omega (arith, ints, sums, right, left, parts, negated, one, other)
