-- The tokens that names stand for.
use Rattle.std.proofs.Common.{◌≡◌, ◌<◌, ◌≤◌, ℕ, zero, suc, ◌+◌, Bool, true, false, cond, List, [], ◌∷◌, map, filter, take, length, length-append, sum_by, Option, None, Some, refl, ap, sym, ◌∙◌, arith, slice_index}
use Rattle.std.specs.List.{range_with_len}
use Rattle.std.proofs.lemmas.Bool.Decides.{nat_tests}
use Rattle.std.proofs.lemmas.List.{length-map}
use Rattle.std.proofs.lemmas.List.FromFn.{length-range_with_len}
use Rattle.std.proofs.lemmas.List.Sums.{sum_by-cons}
use Rattle.pt_net.specs.Systems.{places}
use Rattle.reductions.specs.Numbers.{numbers}
use Rattle.line_words.specs.declared.items.PlaceRef.{PlaceRef}
use Rattle.cert_names.specs.Numbers.{Interval, is_in, has, instances_at, interval_of}
use Rattle.cert_names.specs.Laws.{place_name}
use Rattle.cert_names.specs.Meanings.{tokens_on}
use Rattle.cert_names.proofs.Names.{names_are_numbered}
use Rattle.net_firing.specs.Coloured.{ColouredPlace}
use Rattle.net_firing.specs.Laws.{start_of}
use Rattle.net_firing.specs.Markings.{HasColour, Marking, pairs_from, place_at, tokens}
use Rattle.net_firing.specs.Unfolding.{Flat}
use Rattle.net_firing.proofs.Places.{index_at}
use Rattle.net_props.specs.Properties.{tokens_at}
use Rattle.net_props.proofs.Counts.{as_many}
use Rattle.cert_goals.specs.Sections.{Setting}
use Rattle.cert_goals.specs.Laws.{IsUnfolded, HasNumbers, TokensAreNamed}

-- a number in front that passes, and one that fails
passing : (test : ℕ → Bool) (m : ℕ → ℕ) (c : ℕ) (xs : List ℕ) → test c ≡ true → sum_by m (filter test (c ∷ xs)) ≡ m c + sum_by m (filter test xs)
passing test m c xs e = ap (λ b. sum_by m (cond b (c ∷ filter test xs) (filter test xs))) e ∙ sum_by-cons m c (filter test xs)

failing : (test : ℕ → Bool) (m : ℕ → ℕ) (c : ℕ) (xs : List ℕ) → test c ≡ false → sum_by m (filter test (c ∷ xs)) ≡ sum_by m (filter test xs)
failing test m c xs e = ap (λ b. sum_by m (cond b (c ∷ filter test xs) (filter test xs))) e

sum_behind : (m : ℕ → ℕ) (i : Interval) (c n : ℕ) → i.end ≤ c → sum_by m (filter (is_in i) (range_with_len c n)) ≡ 0
sum_behind m i c zero past = refl
sum_behind m i c (suc n) past = failing (is_in i) m c (range_with_len (c + 1) n) (grind (arith, nat_tests)) ∙ sum_behind m i (c + 1) n (omega (arith, past))

sum_inside : (m : ℕ → ℕ) (i : Interval) (c n k : ℕ) → i.first ≤ c → c + k ≡ i.end → i.end ≤ c + n → sum_by m (filter (is_in i) (range_with_len c n)) ≡ sum_by m (range_with_len c k)
sum_inside m i c n zero from to within = sum_behind m i c n (omega (arith, to))
sum_inside m i c zero (suc k) from to within = absurd (omega (arith, to, within))
sum_inside m i c (suc n) (suc k) from to within =
    let rest = sum_inside m i (c + 1) n k (omega (arith, from)) (omega (arith, to)) (omega (arith, within)) in
    let less : c < i.end = omega (arith, to) in
    passing (is_in i) m c (range_with_len (c + 1) n) (grind (arith, nat_tests)) ∙ ap (λ s. m c + s) rest ∙ sym (sum_by-cons m c (range_with_len (c + 1) k))

sum_before : (m : ℕ → ℕ) (i : Interval) (c n j k : ℕ) → c + j ≡ i.first → i.first + k ≡ i.end → i.end ≤ c + n → sum_by m (filter (is_in i) (range_with_len c n)) ≡ sum_by m (range_with_len i.first k)
sum_before m i c n zero k here to within =
    let same : c ≡ i.first = omega (arith, here) in
    sum_inside m i c n k (omega (arith, same)) (omega (arith, to, same)) within ∙ ap (λ a. sum_by m (range_with_len a k)) same
sum_before m i c zero (suc j) k here to within = absurd (omega (arith, here, to, within))
sum_before m i c (suc n) (suc j) k here to within =
    let less : c < i.first = omega (arith, here) in
    failing (is_in i) m c (range_with_len (c + 1) n) (grind (arith, nat_tests)) ∙ sum_before m i (c + 1) n j k (omega (arith, here)) to (omega (arith, within))

shifted : (f g : ℕ → ℕ) (a c n : ℕ) → ((k : ℕ) → k < n → f (a + k) ≡ g (c + k)) → sum_by f (range_with_len a n) ≡ sum_by g (range_with_len c n)
shifted f g a c zero same = refl
shifted f g a c (suc n) same =
    let first : f a ≡ g c = ap f (omega arith) ∙ same 0 (omega arith) ∙ ap g (omega arith) in
    let rest = shifted f g (a + 1) (c + 1) n (λ k low. ap f (omega arith) ∙ same (suc k) (omega (arith, low)) ∙ ap g (omega arith)) in
    sum_by-cons f a (range_with_len (a + 1) n) ∙ ap (λ s. s + sum_by f (range_with_len (a + 1) n)) first ∙ ap (λ s. g c + s) rest ∙ sym (sum_by-cons g c (range_with_len (c + 1) n))

-- where the instances of a place begin and end
abbrev colours : ColouredPlace → ℕ
colours place = place.size

one_more : (all : List ColouredPlace) (p : ℕ) → p < length all → sum_by colours (take (suc p) all) ≡ sum_by colours (take p all) + (place_at all p).size
one_more [] p low = absurd (omega (arith, low))
one_more (place ∷ more) zero low = omega (arith, sum_by-cons colours place [])
one_more (place ∷ more) (suc p) low =
    let rest = one_more more p (omega (arith, low)) in
    omega (arith, rest, sum_by-cons colours place (take (suc p) more), sum_by-cons colours place (take p more))

within_all : (first : ℕ) (all : List ColouredPlace) (p : ℕ) → sum_by colours (take p all) ≤ length (pairs_from first all)
within_all first [] zero = omega arith
within_all first [] (suc p) = omega arith
within_all first (place ∷ more) zero = omega arith
within_all first (place ∷ more) (suc p) =
    let row = length-map {B = ℕ × ℕ} (range_with_len 0 place.size) (λ k. (first, k)) in
    let long = length-range_with_len 0 place.size in
    let both = length-append (map {B = ℕ × ℕ} (λ k. (first, k)) (range_with_len 0 place.size)) (pairs_from (first + 1) more) in
    omega (arith, row, long, both, within_all (first + 1) more p, sum_by-cons colours place (take p more))

tokens_in : (setting : Setting) (marking : List ℕ) (place : PlaceRef) (i : Interval) (k : ℕ) → interval_of setting.numbering place ≡ Some i → i.first + k ≡ i.end → i.end ≤ places setting.unfolded
    → tokens_on setting.numbering setting.unfolded marking place ≡ sum_by (slice_index marking) (range_with_len i.first k)
unfolding numbers
tokens_in setting marking place i k is to within =
    ap (λ (o : Option Interval). sum_by (slice_index marking) (filter (has o) (range_with_len 0 (places setting.unfolded)))) is
    ∙ sum_before (slice_index marking) i 0 (places setting.unfolded) i.first k (omega arith) to (omega (arith, within))

inside : (setting : Setting) → HasNumbers setting → (p : ℕ) → p < length setting.coloured.places → p < length setting.numbering.places
inside setting told p low = omega (arith, low, told.places)

starts : (setting : Setting) → HasNumbers setting → (p : ℕ) → p < length setting.coloured.places → slice_index setting.numbering.starts p ≡ start_of setting.coloured p
starts setting told p low = told.starts p (omega (arith, low, told.places))

ends : (setting : Setting) → HasNumbers setting → (p : ℕ) → p < length setting.coloured.places
    → slice_index setting.numbering.starts p + (place_at setting.coloured.places p).size ≡ slice_index setting.numbering.starts (p + 1)
ends setting told p low =
    let here = starts setting told p low in
    let there = told.starts (p + 1) (omega (arith, low, told.places)) in
    let more = one_more setting.coloured.places p low in
    let number : p + 1 ≡ suc p = omega arith in
    let same : start_of setting.coloured (p + 1) ≡ sum_by colours (take (suc p) setting.coloured.places) = ap (λ n. sum_by colours (take n setting.coloured.places)) number in
    omega (arith, here, there, more, same)

bounded : (setting : Setting) → IsUnfolded setting → HasNumbers setting → (p : ℕ) → p < length setting.coloured.places → slice_index setting.numbering.starts (p + 1) ≤ places setting.unfolded
bounded setting unfolded told p low =
    let there = told.starts (p + 1) (omega (arith, low, told.places)) in
    let many = as_many setting.coloured setting.unfolded unfolded.unfolds in
    let all = within_all 0 setting.coloured.places (p + 1) in
    omega (arith, there, many, all)

single : (f : ℕ → ℕ) (k : ℕ) → sum_by f (range_with_len k 1) ≡ f k
single f k = sum_by-cons f k [] ∙ omega arith

whole_is : (setting : Setting) → IsUnfolded setting → HasNumbers setting → (m : Marking) (p : ℕ) → p < length setting.coloured.places
    → tokens_on setting.numbering setting.unfolded (Flat setting.coloured m) (record { place = place_name setting.numbering p; colour = None }) ≡ tokens_at setting.coloured m p
whole_is setting unfolded told m p low =
    let at : Interval = instances_at setting.numbering p in
    let own : ℕ = (place_at setting.coloured.places p).size in
    let known = names_are_numbered setting.numbering setting.unfolded told.numbers in
    tokens_in setting (Flat setting.coloured m) (record { place = place_name setting.numbering p; colour = None }) at own (known.whole p (inside setting told p low)) (ends setting told p low)
    (bounded setting unfolded told p low)
    ∙ shifted (slice_index (Flat setting.coloured m)) (tokens m p) at.first 0 own (λ k has.
    ap (λ a. slice_index (Flat setting.coloured m) (a + k)) (starts setting told p low) ∙ index_at setting.coloured (tokens m) p k has ∙ ap (tokens m p) (omega arith))

coloured_is : (setting : Setting) → IsUnfolded setting → HasNumbers setting → (m : Marking) (p k : ℕ) → p < length setting.coloured.places → HasColour setting.coloured p k
    → tokens_on setting.numbering setting.unfolded (Flat setting.coloured m) (record { place = place_name setting.numbering p; colour = Some k }) ≡ tokens m p k
coloured_is setting unfolded told m p k low has =
    let at : Interval = instances_at setting.numbering p in
    let here : Interval = record { first = at.first + k; end = at.first + k + 1 } in
    let known = names_are_numbered setting.numbering setting.unfolded told.numbers in
    let to = ends setting told p low in
    let past = bounded setting unfolded told p low in
    tokens_in setting (Flat setting.coloured m) (record { place = place_name setting.numbering p; colour = Some k }) here 1
    (known.coloured p k (inside setting told p low) (omega (arith, to, has))) (omega arith) (omega (arith, to, past, has))
    ∙ single (slice_index (Flat setting.coloured m)) (at.first + k)
    ∙ ap (λ a. slice_index (Flat setting.coloured m) (a + k)) (starts setting told p low)
    ∙ index_at setting.coloured (tokens m) p k has

pub tokens_are_named : (setting : Setting) → IsUnfolded setting → HasNumbers setting → TokensAreNamed setting
tokens_are_named setting unfolded told = record { whole = whole_is setting unfolded told; coloured = coloured_is setting unfolded told }
