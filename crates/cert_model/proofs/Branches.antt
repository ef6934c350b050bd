-- At a true node a marking that meets the state meets that of some branch.
use Rattle.std.proofs.Common.{◌≡◌, ℕ, zero, suc, ◌≤◌, Bool, true, false, ◌&&◌, ◌||◌, List, [], ◌∷◌, ◌++◌, map, max, ℤ, pos, negsuc, ◌+ℤ◌, ◌*ℤ◌, neg_ℤ, inl, inr, refl, sym, ap, subst, arith, nat_eq}
use Rattle.std.specs.Prelude.{int_le, int_lt, cond, Option, Some, None}
use Rattle.std.specs.List.{list_all, list_any, AllByRecursion}
use Rattle.std.proofs.lemmas.Int.{ints}
use Rattle.std.proofs.lemmas.Bool.Decides.{nat_tests}
use Rattle.cert_model.specs.Sums.{sum_of, products, is_true}
use Rattle.tree_visits.specs.Forests.{Some_of}
use Rattle.cert_model.specs.Nets.{Counts, Net, all_places}
use Rattle.cert_model.specs.Forms.{Form, value_at, NotNegative, mixed, mixed_sums}
use Rattle.cert_model.specs.Facts.{Fact, IsMet}
use Rattle.cert_model.specs.Paths.{Item, State, lower_of, upper_of, least, entered, with_hypothesis, Fulfils, Meets}
use Rattle.cert_model.specs.Trees.{Multiplier, OfFact, OfHypothesis, Kind, Close, Clash, Split, Cases, Each, numbered, form_or_zero, is_there, part_of, is_multiplied_well, greatest_term, is_bounded, greatest_terms, is_bounded_above, close_check, is_crossed, has_count, node_check, at_most, above, case_rounds, each_rounds, rounds}
use Rattle.cert_model.proofs.Weights.{and_split, products-neg, sum_of-append, sum_of-neg, times, le_add, mul_less, mul_more}
use Rattle.cert_model.proofs.Mixes.{judged_holds, combined, combined_is_mixed, zero_form_is_zero}
use Rattle.cert_model.proofs.Multiples.{IfThere, element_holds, factor_is_not_negative}
use Rattle.cert_model.proofs.Opening.{meets_hypothesis, entered_meets}

-- bounds
lower_step : (m : Counts) (b : Bool) (q p n low : ℕ) → nat_eq q p ≡ b → n ≤ m q → low ≤ m p → cond b (max n low) low ≤ m p
lower_step m true q p n low is here there =
    let same : q ≡ p = grind (arith, nat_tests) in
    let at : m q ≡ m p = ap m same in
    omega arith
lower_step m false q p n low is here there = there

lower_holds : (m : Counts) (bounds : List (ℕ × ℕ)) (p : ℕ) → AllByRecursion (λ bound. bound.1 ≤ m bound.0) bounds → lower_of bounds p ≤ m p
lower_holds m [] p all = omega arith
lower_holds m (bound ∷ bounds) p all = lower_step m (nat_eq bound.0 p) bound.0 p bound.1 (lower_of bounds p) refl all.0 (lower_holds m bounds p all.1)

least_holds : (n k : ℕ) (upper : Option ℕ) → n ≤ k → IfThere (λ u. n ≤ u) upper → IfThere (λ u. n ≤ u) (least k upper)
least_holds n k None here there = here
least_holds n k (Some u) here there = omega arith

upper_step : (m : Counts) (b : Bool) (q p n : ℕ) (upper : Option ℕ) → nat_eq q p ≡ b → m q ≤ n → IfThere (λ u. m p ≤ u) upper → IfThere (λ u. m p ≤ u) (cond b (least n upper) upper)
upper_step m true q p n upper is here there =
    let same : q ≡ p = grind (arith, nat_tests) in
    least_holds (m p) n upper (subst (λ r. m r ≤ n) same here) there
upper_step m false q p n upper is here there = there

upper_holds : (m : Counts) (bounds : List (ℕ × ℕ)) (p : ℕ) → AllByRecursion (λ bound. m bound.0 ≤ bound.1) bounds → IfThere (λ u. m p ≤ u) (upper_of bounds p)
upper_holds m [] p all = tt
upper_holds m (bound ∷ bounds) p all = upper_step m (nat_eq bound.0 p) bound.0 p bound.1 (upper_of bounds p) refl all.0 (upper_holds m bounds p all.1)

-- `clash`
crossed : (n lower : ℕ) (upper : Option ℕ) → is_crossed lower upper ≡ true → lower ≤ n → IfThere (λ u. n ≤ u) upper → ⊥
crossed n lower None h low up = absurd cc
crossed n lower (Some u) h low up = grind (arith, nat_tests)

none_clash : (net : Net) (m : Counts) (s : State) (places : List ℕ) → Meets net m s → list_any (λ p. is_crossed (lower_of s.lowers p) (upper_of s.uppers p)) places ≡ true → ⊥
none_clash net m s [] met h = absurd cc
none_clash net m s (p ∷ places) met h = cases (is_crossed (lower_of s.lowers p) (upper_of s.uppers p)) refl h (none_clash net m s places met)
  where
    cases : (b : Bool) → is_crossed (lower_of s.lowers p) (upper_of s.uppers p) ≡ b → (b || list_any (λ q. is_crossed (lower_of s.lowers q) (upper_of s.uppers q)) places) ≡ true
        → (list_any (λ q. is_crossed (lower_of s.lowers q) (upper_of s.uppers q)) places ≡ true → ⊥) → ⊥
    cases true is h next = crossed (m p) (lower_of s.lowers p) (upper_of s.uppers p) is (lower_holds m s.lowers p met.lowers) (upper_holds m s.uppers p met.uppers)
    cases false is h next = next h

-- `close`
below_greatest : (r : ℤ) (n lower : ℕ) (upper : Option ℕ) → is_bounded r upper ≡ true → lower ≤ n → IfThere (λ u. n ≤ u) upper → int_le (r *ℤ pos n) (greatest_term r lower upper) ≡ true
below_greatest r n lower None h low up = mul_less r lower n h low
below_greatest r n lower (Some u) h low up = cases (int_le r (pos 0)) refl
  where
    positive : (z : ℤ) → int_le z (pos 0) ≡ false → int_le (pos 0) z ≡ true
    positive z e = grind (arith, ints)

    cases : (b : Bool) → int_le r (pos 0) ≡ b → int_le (r *ℤ pos n) (cond b (r *ℤ pos lower) (r *ℤ pos u)) ≡ true
    cases true is = mul_less r lower n is low
    cases false is = mul_more r n u (positive r is) up

all_below : (m : Counts) (s : State) (r : ℕ → ℤ) (ps : List ℕ) → ((p : ℕ) → lower_of s.lowers p ≤ m p) → ((p : ℕ) → IfThere (λ u. m p ≤ u) (upper_of s.uppers p))
    → list_all (λ p. is_bounded (r p) (upper_of s.uppers p)) ps ≡ true
    → int_le (sum_of (products ps r m)) (sum_of (map (λ p. greatest_term (r p) (lower_of s.lowers p) (upper_of s.uppers p)) ps)) ≡ true
all_below m s r [] low up h = refl
all_below m s r (p ∷ ps) low up h =
    let both = and_split (is_bounded (r p) (upper_of s.uppers p)) (list_all (λ q. is_bounded (r q) (upper_of s.uppers q)) ps) h in
    le_add (sum_of (products ps r m)) (sum_of (map (λ q. greatest_term (r q) (lower_of s.lowers q) (upper_of s.uppers q)) ps))
    (r p *ℤ pos (m p)) (greatest_term (r p) (lower_of s.lowers p) (upper_of s.uppers p))
    (all_below m s r ps low up both.1) (below_greatest (r p) (m p) (lower_of s.lowers p) (upper_of s.uppers p) both.0 (low p) (up p))

hypothesis_holds : (net : Net) (m : Counts) (form : Option Form) → IfThere (λ f. NotNegative (value_at net f m)) form → NotNegative (value_at net (form_or_zero form) m)
hypothesis_holds net m None is = subst (λ z. NotNegative z) (sym (zero_form_is_zero net m)) refl
hypothesis_holds net m (Some form) is = is

numbered_holds : {X : Type 0} (P : X → Type 0) (xs : List X) (n : ℕ) → AllByRecursion P xs → IfThere P (numbered xs n)
numbered_holds P xs zero all = tt
numbered_holds P xs (suc n) all = element_holds P xs n all

part_is_not_negative : (net : Net) (facts : List Fact) (m : Counts) (s : State) (multiplier : Multiplier) → AllByRecursion (λ f. IsMet net f m) facts → Meets net m s
    → is_multiplied_well facts s multiplier ≡ true → NotNegative ((part_of net facts s multiplier).multiplier *ℤ value_at net (part_of net facts s multiplier).form m)
part_is_not_negative net facts m s (OfFact factor) known met signed = factor_is_not_negative net m facts factor signed known
part_is_not_negative net facts m s (OfHypothesis value number) known met signed =
    times value (value_at net (form_or_zero (numbered s.hypotheses number)) m) (and_split (is_there (numbered s.hypotheses number)) (int_le (pos 0) value) signed).1
    (hypothesis_holds net m (numbered s.hypotheses number) (numbered_holds (λ f. NotNegative (value_at net f m)) s.hypotheses number met.hypotheses))

mix_is_not_negative : (net : Net) (facts : List Fact) (m : Counts) (s : State) (multipliers : List Multiplier) → AllByRecursion (λ f. IsMet net f m) facts → Meets net m s
    → list_all (is_multiplied_well facts s) multipliers ≡ true → NotNegative (combined net (map (part_of net facts s) multipliers) m)
mix_is_not_negative net facts m s [] known met signed = refl
mix_is_not_negative net facts m s (multiplier ∷ multipliers) known met signed =
    let both = and_split (is_multiplied_well facts s multiplier) (list_all (is_multiplied_well facts s) multipliers) signed in
    le_add (pos 0) (combined net (map (part_of net facts s) multipliers) m) (pos 0) ((part_of net facts s multiplier).multiplier *ℤ value_at net (part_of net facts s multiplier).form m)
    (mix_is_not_negative net facts m s multipliers known met both.1) (part_is_not_negative net facts m s multiplier known met both.0)

none_close : (net : Net) (facts : List Fact) (m : Counts) (s : State) (multipliers : List Multiplier) → AllByRecursion (λ f. IsMet net f m) facts → Meets net m s
    → is_true (close_check net facts s multipliers) ≡ true → ⊥
none_close net facts m s multipliers known met h =
    let form : Form = mixed (map (part_of net facts s) multipliers) in
    let holding = judged_holds (list_all (is_multiplied_well facts s) multipliers)
    (mixed_sums net (map (part_of net facts s) multipliers) ++ cond (is_bounded_above net s form) (greatest_terms net s form ∷ []) [])
    (is_bounded_above net s form && int_lt (sum_of (greatest_terms net s form)) (pos 0)) h in
    let parts = and_split (is_bounded_above net s form) (int_lt (sum_of (greatest_terms net s form)) (pos 0)) holding.1 in
    let least : NotNegative (value_at net form m) = subst (λ z. NotNegative z) (combined_is_mixed net (map (part_of net facts s) multipliers) m) (mix_is_not_negative net facts m s multipliers known met holding.0) in
    let most = all_below m s form.coefficient (all_places net) (λ p. lower_holds m s.lowers p met.lowers) (λ p. upper_holds m s.uppers p met.uppers) parts.0 in
    contradiction (sum_of (products (all_places net) form.coefficient m)) (sum_of form.constant) (sum_of (map (λ p. greatest_term (form.coefficient p) (lower_of s.lowers p) (upper_of s.uppers p)) (all_places net))) least most parts.1
  where
    contradiction : (x c y : ℤ) → NotNegative (x +ℤ c) → int_le x y ≡ true → int_lt (y +ℤ c) (pos 0) ≡ true → ⊥
    contradiction x c y p q r = grind (arith, ints)

-- `split`
at_most_value : (net : Net) (form : Form) (limit : ℤ) (m : Counts) → value_at net (at_most form limit) m +ℤ value_at net form m ≡ limit
at_most_value net form limit m = omega (arith, ints, products-neg (all_places net) form.coefficient m, sum_of-neg form.constant)

above_value : (net : Net) (form : Form) (limit : ℤ) (m : Counts) → value_at net (above form limit) m +ℤ limit ≡ value_at net form m +ℤ negsuc 0
above_value net form limit m = omega (arith, ints, sum_of-append form.constant (neg_ℤ limit ∷ negsuc 0 ∷ []))

some_side : (net : Net) (m : Counts) (s : State) (form : Form) (limit : ℤ) → Meets net m s → Some_of (Some_of (Meets net m)) (rounds net s (Split form limit))
some_side net m s form limit met = inl (cases (int_le (value_at net form m) limit) refl)
  where
    low : (z v : ℤ) → z +ℤ v ≡ limit → int_le v limit ≡ true → NotNegative z
    low z v e h = grind (arith, ints)

    high : (z v : ℤ) → z +ℤ limit ≡ v +ℤ negsuc 0 → int_le v limit ≡ false → NotNegative z
    high z v e h = grind (arith, ints)

    cases : (b : Bool) → int_le (value_at net form m) limit ≡ b → Some_of (Meets net m) (with_hypothesis (at_most form limit) s ∷ with_hypothesis (above form limit) s ∷ [])
    cases true is = inl (meets_hypothesis net m (at_most form limit) s (low (value_at net (at_most form limit) m) (value_at net form m) (at_most_value net form limit m) is) met)
    cases false is = inr (inl (meets_hypothesis net m (above form limit) s (high (value_at net (above form limit) m) (value_at net form m) (above_value net form limit m) is) met))

-- `cases` and `each`
some_entered : (net : Net) (m : Counts) (s : State) (items : List Item) → Meets net m s → Some_of (Fulfils net m) items → Some_of (Meets net m) (map (λ item. entered net item s) items)
some_entered net m s [] met none = none
some_entered net m s (item ∷ items) met (inl is) = inl (entered_meets net m item s is met)
some_entered net m s (item ∷ items) met (inr later) = inr (some_entered net m s items met later)

some_each : (net : Net) (m : Counts) (s : State) (items : List Item) → Meets net m s → Some_of (Fulfils net m) items → Some_of (Some_of (Meets net m)) (map (λ item. entered net item s ∷ []) items)
some_each net m s [] met none = none
some_each net m s (item ∷ items) met (inl is) = inl (inl (entered_meets net m item s is met))
some_each net m s (item ∷ items) met (inr later) = inr (some_each net m s items met later)

some_case : (net : Net) (m : Counts) (s : State) (count : ℕ) (choice : Option (List Item)) → Meets net m s → has_count count choice ≡ true
    → IfThere (Some_of (Fulfils net m)) choice → Some_of (Some_of (Meets net m)) (case_rounds net s count choice)
some_case net m s count None met h some = absurd cc
some_case net m s count (Some items) met h some =
    subst (λ b. Some_of (Some_of (Meets net m)) (cond b (map (λ item. entered net item s) items ∷ []) [])) (sym h) (inl (some_entered net m s items met some))

some_item : (net : Net) (m : Counts) (s : State) (choice : Option (List Item)) → Meets net m s → is_there choice ≡ true
    → IfThere (Some_of (Fulfils net m)) choice → Some_of (Some_of (Meets net m)) (each_rounds net s choice)
some_item net m s None met h some = absurd cc
some_item net m s (Some items) met h some = some_each net m s items met some

pub nodes_leave_none_out : (net : Net) (facts : List Fact) (m : Counts) → AllByRecursion (λ f. IsMet net f m) facts
    → (s : State) (kind : Kind) → is_true (node_check net facts s kind) ≡ true → Meets net m s → Some_of (Some_of (Meets net m)) (rounds net s kind)
nodes_leave_none_out net facts m known s (Close multipliers) holds met = none_close net facts m s multipliers known met holds
nodes_leave_none_out net facts m known s (Clash places) holds met =
    none_clash net m s places met (judged_holds true [] (list_any (λ p. is_crossed (lower_of s.lowers p) (upper_of s.uppers p)) places) holds).1
nodes_leave_none_out net facts m known s (Split form limit) holds met = some_side net m s form limit met
nodes_leave_none_out net facts m known s (Cases choice count) holds met =
    some_case net m s count (numbered s.choices choice) met (judged_holds true [] (has_count count (numbered s.choices choice)) holds).1
    (numbered_holds (Some_of (Fulfils net m)) s.choices choice met.choices)
nodes_leave_none_out net facts m known s (Each choice) holds met =
    some_item net m s (numbered s.choices choice) met (judged_holds true [] (is_there (numbered s.choices choice)) holds).1
    (numbered_holds (Some_of (Fulfils net m)) s.choices choice met.choices)
