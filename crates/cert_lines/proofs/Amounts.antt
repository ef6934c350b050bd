-- How the sums of a line grow by one coefficient.
use Rattle.std.proofs.Common.{◌≡◌, ℕ, ◌+◌, ◌<◌, ◌≤◌, ◌^◌, Bool, true, false, List, length, map, take, cond, nat_lt, get_or, Option, Some, refl, sym, ap, subst, ◌∙◌, arith}
use Rattle.std.specs.Prelude.{sum_by, ◌-◌, if◌then◌else◌}
use Rattle.std.specs.Str.{bytes_eq}
use Rattle.std.proofs.lemmas.Bool.Decides.{nat_tests}
use Rattle.std.proofs.lemmas.Cmp.{nat_list_eq_equiv}
use Rattle.std.specs.Cmp.Lexicographic.{bytes_decides}
use Rattle.std.proofs.lemmas.List.{get_or-map, length-map}
use Rattle.std.proofs.lemmas.List.Folds.{list_any_at, list_any_none}
use Rattle.std.proofs.lemmas.List.Sums.{sum_by_more, sum_by_more_le, sum_by-le-sum_by}
use Rattle.cert_lines.specs.Sums.{are_past, or_zero, share, sum_on}

pub one_more : {X : Type 0} (f : (List ℕ × ℕ) → ℕ) (g : X → List ℕ × ℕ) (xs : List X) (i : ℕ) (x : X) → i < length xs → x ≡ get_or xs i x
    → sum_by f (take (i + 1) (map g xs)) ≡ sum_by f (take i (map g xs)) + f (g x)
one_more f g xs i x within is =
    sum_by_more f (map g xs) i (g x) (omega (arith, length-map xs g))
    ∙ ap (λ y. sum_by f (take i (map g xs)) + f y) (get_or-map g xs i x (g x) within ∙ ap g (sym is))

within_most : (s : ℕ) → s < 2 ^ 63 → nat_lt (2 ^ 63 - 1) s ≡ false
within_most s low = grind (arith, nat_tests)

past_most : (s : ℕ) → 2 ^ 63 ≤ s → nat_lt (2 ^ 63 - 1) s ≡ true
past_most s high = grind (arith, nat_tests)

pub none_past : (amounts : List (List ℕ × ℕ)) → ((q : List ℕ) → sum_on q amounts < 2 ^ 63) → are_past amounts ≡ false
none_past amounts low = list_any_none (λ a. nat_lt (2 ^ 63 - 1) (sum_on a.0 amounts)) amounts (λ k d within. within_most _ (low (get_or amounts k d).0))

share_of_own : (a : List ℕ × ℕ) → share a.0 a ≡ a.1
share_of_own a = rw (nat_list_eq_equiv.refl a.0) refl

pub one_past : {X : Type 0} (g : X → List ℕ × ℕ) (xs : List X) (i : ℕ) (x : X) → i < length xs → x ≡ get_or xs i x
    → 2 ^ 63 ≤ sum_on (g x).0 (take i (map g xs)) + (g x).1 → are_past (map g xs) ≡ true
one_past g xs i x within is high =
    let amounts = map g xs in
    let here : i < length amounts = omega (arith, length-map xs g) in
    let at : get_or amounts i (g x) ≡ g x = get_or-map g xs i x (g x) within ∙ ap g (sym is) in
    let whole = sum_by_more_le (share (g x).0) amounts i (g x) here in
    let own = share_of_own (g x) in
    let grown : sum_by (share (g x).0) (take i amounts) + (g x).1 ≤ sum_by (share (g x).0) amounts = rw (at, own) at whole in
    let past : 2 ^ 63 ≤ sum_on (g x).0 amounts = omega arith in
    list_any_at (λ a. nat_lt (2 ^ 63 - 1) (sum_on a.0 amounts)) amounts i (g x) here
    (ap (λ a. nat_lt (2 ^ 63 - 1) (sum_on a.0 amounts)) at ∙ past_most _ past)

share_within : (q : List ℕ) (a : List ℕ × ℕ) → share q a ≤ a.1
share_within q a = by (bytes_eq q a.0)
  where
    by : (t : Bool) → (if t then a.1 else 0) ≤ a.1
    by true = omega arith
    by false = omega arith

pub few_past : (amounts : List (List ℕ × ℕ)) → sum_by (λ x. x.1) amounts < 2 ^ 63 → are_past amounts ≡ false
few_past amounts low = none_past amounts (λ q. let below = sum_by-le-sum_by (share q) (λ x. x.1) amounts (share_within q) in omega arith)

-- what stands on each name after one more amount, where the new sum was put in the place of the one before
pub one_added : (f g : List ℕ → Option ℕ) (name : List ℕ) (size before total : ℕ) → ((q : List ℕ) → g q ≡ cond (bytes_eq name q) (Some total) (f q))
    → or_zero (f name) ≡ before → total ≡ before + size → total < 2 ^ 63 → ((q : List ℕ) → or_zero (f q) < 2 ^ 63)
    → (q : List ℕ) → (or_zero (g q) ≡ or_zero (f q) + share q (name, size)) × (or_zero (g q) < 2 ^ 63)
one_added f g name size before total put was is low few q = by (bytes_eq name q) refl
  where
    by : (t : Bool) → bytes_eq name q ≡ t → (or_zero (g q) ≡ or_zero (f q) + share q (name, size)) × (or_zero (g q) < 2 ^ 63)
    by true e =
        let same : name ≡ q = (bytes_decides name q).0 e in
        let there : or_zero (g q) ≡ total = ap or_zero (put q ∙ ap (λ t. cond t (Some total) (f q)) e) in
        let at : or_zero (f q) ≡ before = ap (λ n. or_zero (f n)) (sym same) ∙ was in
        let own : share q (name, size) ≡ size = subst (λ n. share n (name, size) ≡ size) same (share_of_own (name, size)) in
        (there ∙ is ∙ sym (ap (λ b. b + share q (name, size)) at ∙ ap (λ s. before + s) own), subst (λ n. n < 2 ^ 63) (sym there) low)
    by false e =
        let there : or_zero (g q) ≡ or_zero (f q) = ap or_zero (put q ∙ ap (λ t. cond t (Some total) (f q)) e) in
        let none : share q (name, size) ≡ 0 = ap (λ t. cond t size 0) (nat_list_eq_equiv.symm q name ∙ e) in
        let no_more : or_zero (f q) + 0 ≡ or_zero (f q) = omega arith in
        (there ∙ sym (ap (λ s. or_zero (f q) + s) none ∙ no_more), subst (λ n. n < 2 ^ 63) (sym there) (few q))
