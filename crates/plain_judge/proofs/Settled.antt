-- Laws of coefficients that are taken away one by one.
use Rattle.std.proofs.Common.{◌≡◌, ◌≢◌, ℕ, zero, suc, ◌^◌, ◌<◌, ◌≤◌, true, List, [], ◌∷◌, ◌⊎◌, inl, inr, length, map, get_or, set, replicate, ℤ, pos, ◌*ℤ◌, neg_ℤ, refl, sym, ◌∙◌, ap, subst, arith}
use Rattle.std.proofs.lemmas.Int.{ints}
use Rattle.std.proofs.lemmas.List.{get_or-replicate, get_or-set_other, get_or-set_same}
use Rattle.wide_sums.specs.Total.{Total, joined, total_of, with_term, zero_total}
use Rattle.wide_sums.proofs.Totals.{joined-with_term, same_total, with_term-swap}
use Rattle.plain_model.proofs.Products.{mul_zero}
use Rattle.plain_model.specs.declared.nets.Place.{Place}
use Rattle.plain_model.specs.Forms.{Form}
use Rattle.plain_model.specs.Sums.{products}
use Rattle.plain_judge.specs.Residuals.{AddsPart, AreInRange, FitPart, IsPartWide, IsSettledWide, markings, sum_with_part}
use Rattle.plain_judge.specs.Closing.{IsSlackWide}
use Rattle.plain_judge.proofs.FirstFailing.{same_or_other, zero_term}

-- the total of the terms of a flow's constant
abbrev pub constant_of : List ℤ → List Place → Total
constant_of ys places = total_of (map neg_ℤ (products ys (markings places)))

-- the term of one place, and the total without its coefficient
pub one_taken : (ys : List ℤ) (places : List Place) (p : ℕ) (d : Place) → length ys ≡ length places → p < length ys
    → constant_of ys places ≡ with_term (constant_of (set ys p (pos 0)) places) (neg_ℤ (get_or ys p (pos 0) *ℤ pos (get_or places p d).marking))
one_taken [] places p d same within = absurd (omega arith)
one_taken (y ∷ ys) [] p d same within = absurd (omega arith)
one_taken (y ∷ ys) (place ∷ places) zero d same within =
    ap (λ t. with_term t (neg_ℤ (y *ℤ pos place.marking))) (sym (zero_term (constant_of ys places) true place.marking))
one_taken (y ∷ ys) (place ∷ places) (suc p) d same within =
    ap (λ t. with_term t (neg_ℤ (y *ℤ pos place.marking))) (one_taken ys places p d (omega arith) (omega arith))
    ∙ with_term-swap (constant_of (set ys p (pos 0)) places) (neg_ℤ (get_or ys p (pos 0) *ℤ pos (get_or places p d).marking)) (neg_ℤ (y *ℤ pos place.marking))

pub none_left : (count : ℕ) (places : List Place) → constant_of (replicate count (pos 0)) places ≡ zero_total
none_left zero [] = refl
none_left zero (place ∷ places) = refl
none_left (suc count) [] = refl
none_left (suc count) (place ∷ places) = zero_term (constant_of (replicate count (pos 0)) places) true place.marking ∙ none_left count places

-- the terms so far, and those of the coefficients that are left
pub constant_step : (ys zs new : List ℤ) (places : List Place) (p : ℕ) (d : Place) (now next : Total) → length zs ≡ length places → p < length zs
    → joined now (constant_of zs places) ≡ constant_of ys places
    → new ≡ set zs p (pos 0)
    → next ≡ with_term now (neg_ℤ (get_or zs p (pos 0) *ℤ pos (get_or places p d).marking))
    → joined next (constant_of new places) ≡ constant_of ys places
constant_step ys zs new places p d now next same within before is added =
    ap (λ xs. joined next (constant_of xs places)) is
    ∙ ap (λ t. joined t (constant_of (set zs p (pos 0)) places)) added
    ∙ sym (joined-with_term now (constant_of (set zs p (pos 0)) places) term)
    ∙ same_total (with_term (joined now (constant_of (set zs p (pos 0)) places)) term) (joined now (with_term (constant_of (set zs p (pos 0)) places) term)) (omega (arith, ints)) (omega arith)
    ∙ ap (joined now) (sym (one_taken zs places p d same within))
    ∙ before
  where
    term : ℤ
    term = neg_ℤ (get_or zs p (pos 0) *ℤ pos (get_or places p d).marking)

-- a term that is too large on the way makes the whole too large
pub constant_wide_on_the_way : (ys zs : List ℤ) (places : List Place) (p : ℕ) (d : Place) (now : Total) (bound : ℕ) → length zs ≡ length places → p < length zs
    → joined now (constant_of zs places) ≡ constant_of ys places
    → bound ≤ (with_term now (neg_ℤ (get_or zs p (pos 0) *ℤ pos (get_or places p d).marking))).size
    → bound ≤ (constant_of ys places).size
constant_wide_on_the_way ys zs places p d now bound same within before wide =
    let whole = ap (λ (t : Total). t.size) before in
    let here = ap (λ (t : Total). t.size) (one_taken zs places p d same within) in
    omega (arith, whole, here, wide)

zero_part : (multiplier : ℤ) (total : Total) → with_term total (multiplier *ℤ pos 0) ≡ total
zero_part multiplier total = ap (with_term total) (mul_zero multiplier) ∙ same_total (with_term total (pos 0)) total (omega (arith, ints)) (omega arith)

-- with the coefficients that are left each sum gets what it is to get
abbrev pub WillAdd : ℤ → List ℤ → List Total → List ℤ → List Total → Type 0
WillAdd multiplier ys old zs sums = (q : ℕ) → q < length ys → sum_with_part multiplier zs sums q ≡ sum_with_part multiplier ys old q

pub will_add_step : (multiplier : ℤ) (ys zs new : List ℤ) (old sums next : List Total) (p : ℕ) → length zs ≡ length ys → length sums ≡ length ys → p < length ys
    → new ≡ set zs p (pos 0) → next ≡ set sums p (sum_with_part multiplier zs sums p)
    → WillAdd multiplier ys old zs sums → WillAdd multiplier ys old new next
will_add_step multiplier ys zs new old sums next p long long_sums within is next_is before q inside = cases (same_or_other q p)
  where
    here : sum_with_part multiplier new next p ≡ sum_with_part multiplier zs sums p
    here =
        ap (λ xs. with_term (get_or next p zero_total) (multiplier *ℤ get_or xs p (pos 0))) is
        ∙ ap (λ y. with_term (get_or next p zero_total) (multiplier *ℤ y)) (get_or-set_same zs p (pos 0) (pos 0) (omega (arith, within, long)))
        ∙ zero_part multiplier (get_or next p zero_total)
        ∙ ap (λ ts. get_or ts p zero_total) next_is
        ∙ get_or-set_same sums p (sum_with_part multiplier zs sums p) zero_total (omega (arith, within, long_sums))

    there : q ≢ p → sum_with_part multiplier new next q ≡ sum_with_part multiplier zs sums q
    there apart =
        ap (λ xs. with_term (get_or next q zero_total) (multiplier *ℤ get_or xs q (pos 0))) is
        ∙ ap (λ y. with_term (get_or next q zero_total) (multiplier *ℤ y)) (get_or-set_other zs p q (pos 0) (pos 0) apart)
        ∙ ap (λ ts. with_term (get_or ts q zero_total) (multiplier *ℤ get_or zs q (pos 0))) next_is
        ∙ ap (λ t. with_term t (multiplier *ℤ get_or zs q (pos 0))) (get_or-set_other sums p q (sum_with_part multiplier zs sums p) zero_total apart)

    cases : (q ≡ p) ⊎ (q ≢ p) → sum_with_part multiplier new next q ≡ sum_with_part multiplier ys old q
    cases (inl same) = ap (sum_with_part multiplier new next) same ∙ here ∙ ap (sum_with_part multiplier zs sums) (sym same) ∙ before q inside
    cases (inr apart) = there apart ∙ before q inside

-- one sum more has changed and is in range
pub in_range_step : (count : ℕ) (sums next : List Total) (p : ℕ) (sum : Total) → p < length sums → next ≡ set sums p sum → sum.size < 2 ^ 127
    → AreInRange count sums → AreInRange count next
in_range_step count sums next p sum within is fits before q inside = subst (λ ts. (get_or ts q zero_total).size < 2 ^ 127) (sym is) (cases (same_or_other q p))
  where
    cases : (q ≡ p) ⊎ (q ≢ p) → (get_or (set sums p sum) q zero_total).size < 2 ^ 127
    cases (inl same) = subst (λ n. (get_or (set sums p sum) n zero_total).size < 2 ^ 127) (sym same) (subst (λ (t : Total). t.size < 2 ^ 127) (sym (get_or-set_same sums p sum zero_total within)) fits)
    cases (inr apart) = subst (λ (t : Total). t.size < 2 ^ 127) (sym (get_or-set_other sums p q sum zero_total apart)) (before q inside)

-- where no coefficients are left each sum has got its term
pub all_added : (multiplier : ℤ) (ys zs : List ℤ) (old sums : List Total) (count : ℕ) → zs ≡ replicate count (pos 0) → length ys ≡ count → WillAdd multiplier ys old zs sums → AddsPart multiplier ys old sums
all_added multiplier ys zs old sums count none long will q inside =
    sym (zero_part multiplier (get_or sums q zero_total))
    ∙ ap (λ y. with_term (get_or sums q zero_total) (multiplier *ℤ y)) (sym (ap (λ xs. get_or xs q (pos 0)) none ∙ get_or-replicate count q (pos 0) (pos 0) (omega (arith, inside, long))))
    ∙ will q inside

pub all_fit : (multiplier : ℤ) (ys : List ℤ) (old sums : List Total) → AddsPart multiplier ys old sums → AreInRange (length ys) sums → FitPart multiplier ys old
all_fit multiplier ys old sums adds fit q inside = subst (λ (t : Total). t.size < 2 ^ 127) (adds q inside) (fit q inside)

pub wide_here : (multiplier : ℤ) (ys zs : List ℤ) (old sums : List Total) (p : ℕ) → p < length ys → WillAdd multiplier ys old zs sums → 2 ^ 127 ≤ (sum_with_part multiplier zs sums p).size → IsPartWide multiplier ys old
wide_here multiplier ys zs old sums p within will wide = (p, within, subst (λ (t : Total). 2 ^ 127 ≤ t.size) (will p within) wide)

-- where no coefficients are left the constant is whole
pub constant_whole_taken : (ys zs : List ℤ) (places : List Place) (count : ℕ) (now : Total) → zs ≡ replicate count (pos 0)
    → joined now (constant_of zs places) ≡ constant_of ys places → now ≡ constant_of ys places
constant_whole_taken ys zs places count now none so_far =
    sym (same_total (joined now zero_total) now (omega (arith, ints)) (omega arith))
    ∙ ap (joined now) (sym (ap (λ xs. constant_of xs places) none ∙ none_left count places))
    ∙ so_far

-- what is out of range for the coefficients and the terms is so for the slack form that they are of
pub settled_wide : (names : List (List ℕ)) (multiplier : ℤ) (slack : Form) (sums : List Total) (ys terms : List ℤ) → ys ≡ map slack.coefficient names → terms ≡ slack.constant
    → IsSettledWide multiplier ys sums terms → IsSlackWide names multiplier slack sums
settled_wide names multiplier slack sums ys terms spread same (inl part) = inl (subst (λ zs. IsPartWide multiplier zs sums) spread part)
settled_wide names multiplier slack sums ys terms spread same (inr wide) = inr (subst (λ ts. 2 ^ 127 ≤ (total_of ts).size) same wide)
