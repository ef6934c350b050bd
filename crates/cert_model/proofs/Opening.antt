-- A marking at which a formula has a truth meets what opening it with that truth supposes.
use Rattle.std.proofs.Common.{◌≡◌, ℕ, ◌-◌, ◌≤◌, ◌<◌, Bool, true, false, not, ◌&&◌, ◌||◌, List, [], ◌∷◌, ◌++◌, map, ℤ, pos, negsuc, ◌+ℤ◌, inl, inr, refl, ap, arith}
use Rattle.std.specs.Prelude.{int_le, nat_le}
use Rattle.std.specs.List.{list_any, AllByRecursion}
use Rattle.std.proofs.lemmas.Int.{ints}
use Rattle.std.proofs.lemmas.Bool.Decides.{nat_tests}
use Rattle.tree_visits.specs.Forests.{Some_of}
use Rattle.cert_model.specs.Nets.{Counts, Live, Net}
use Rattle.cert_model.specs.Forms.{Form, value_at, NotNegative, denial}
use Rattle.cert_model.specs.Formulas.{Formula, Formulas, Compare, Fireable, Not, And, Or, End, More, instances_of, fits, truth, all_truth, any_truth}
use Rattle.cert_model.specs.Paths.{Item, Opens, Enabled, Short, State, parts, opened, opened_each, entered, with_hypothesis, with_choices, Fulfils, Meets}
use Rattle.cert_model.proofs.Weights.{and_split}
use Rattle.cert_model.proofs.Mixes.{denial_value}

pub all_more : {X : Type 0} (P : X → Type 0) (xs ys : List X) → AllByRecursion P xs → AllByRecursion P ys → AllByRecursion P (xs ++ ys)
all_more P [] ys before after = after
all_more P (x ∷ xs) ys before after = (before.0, all_more P xs ys before.1 after)

or_split : (x y : Bool) → (x || y) ≡ false → (x ≡ false) × (y ≡ false)
or_split true y h = absurd cc
or_split false y h = (refl, h)

pub meets_hypothesis : (net : Net) (m : Counts) (form : Form) (s : State) → NotNegative (value_at net form m) → Meets net m s → Meets net m (with_hypothesis form s)
meets_hypothesis net m form s is met = record {
  hypotheses = all_more (λ f. NotNegative (value_at net f m)) s.hypotheses (form ∷ []) met.hypotheses (is, tt);
  choices = met.choices;
  lowers = met.lowers;
  uppers = met.uppers;
}

meets_choices : (net : Net) (m : Counts) (choices : List (List Item)) (s : State) → AllByRecursion (Some_of (Fulfils net m)) choices → Meets net m s → Meets net m (with_choices choices s)
meets_choices net m choices s is met = record {
  hypotheses = met.hypotheses;
  choices = all_more (Some_of (Fulfils net m)) s.choices choices met.choices is;
  lowers = met.lowers;
  uppers = met.uppers;
}

denied : (d v : ℤ) → d +ℤ v ≡ negsuc 0 → int_le (pos 0) v ≡ false → NotNegative d
denied d v e h = grind (arith, ints)

-- a test of two that one passes
or_some : {X : Type 0} (P : X → Type 0) (x : X) (xs : List X) (a b : Bool) → (a || b) ≡ true → (a ≡ true → P x) → (b ≡ true → Some_of P xs) → Some_of P (x ∷ xs)
or_some P x xs true b h here there = inl (here refl)
or_some P x xs false b h here there = inr (there h)

some_fits : (net : Net) (m : Counts) (lives : List Live) → list_any (λ live. fits live.needs m) lives ≡ true → Some_of (Fulfils net m) (map (λ live. Enabled live.needs) lives)
some_fits net m [] h = absurd cc
some_fits net m (live ∷ lives) h = or_some (Fulfils net m) (Enabled live.needs) (map (λ l. Enabled l.needs) lives) (fits live.needs m) (list_any (λ l. fits l.needs m) lives) h (λ e. e) (some_fits net m lives)

-- a test of two that one fails
and_some : {X : Type 0} (P : X → Type 0) (x : X) (xs : List X) (a b : Bool) → (a && b) ≡ false → (a ≡ false → P x) → (b ≡ false → Some_of P xs) → Some_of P (x ∷ xs)
and_some P x xs true b h here there = inr (there h)
and_some P x xs false b h here there = inl (here refl)

some_short : (net : Net) (m : Counts) (needs : List (ℕ × ℕ)) → fits needs m ≡ false → Some_of (Fulfils net m) (map (λ need. Short need.0 need.1) needs)
some_short net m [] h = absurd cc
some_short net m (need ∷ needs) h =
    and_some (Fulfils net m) (Short need.0 need.1) (map (λ n. Short n.0 n.1) needs) (nat_le need.1 (m need.0)) (fits needs m) h (below need.1 (m need.0)) (some_short net m needs)
  where
    below : (n k : ℕ) → nat_le n k ≡ false → k < n
    below n k e = grind (arith, nat_tests)

none_fits : (net : Net) (m : Counts) (lives : List Live) → list_any (λ live. fits live.needs m) lives ≡ false
    → AllByRecursion (Some_of (Fulfils net m)) (map (λ live. map (λ need. Short need.0 need.1) live.needs) lives)
none_fits net m [] h = tt
none_fits net m (live ∷ lives) h =
    let both = or_split (fits live.needs m) (list_any (λ l. fits l.needs m) lives) h in
    (some_short net m live.needs both.0, none_fits net m lives both.1)

some_false : (net : Net) (m : Counts) (fs : Formulas) → all_truth net m fs ≡ false → Some_of (Fulfils net m) (parts fs false)
some_false net m End h = absurd cc
some_false net m (More f fs) h = and_some (Fulfils net m) (Opens f false) (parts fs false) (truth net m f) (all_truth net m fs) h (λ e. e) (some_false net m fs)

some_true : (net : Net) (m : Counts) (fs : Formulas) → any_truth net m fs ≡ true → Some_of (Fulfils net m) (parts fs true)
some_true net m End h = absurd cc
some_true net m (More f fs) h = or_some (Fulfils net m) (Opens f true) (parts fs true) (truth net m f) (any_truth net m fs) h (λ e. e) (some_true net m fs)

turned : (a sign : Bool) → not a ≡ sign → a ≡ not sign
turned true sign h = ap not h
turned false sign h = ap not h

mutual
  pub opened_meets : (net : Net) (m : Counts) (f : Formula) (sign : Bool) (s : State) → truth net m f ≡ sign → Meets net m s → Meets net m (opened net f sign s)
  opened_meets net m (Compare form) true s is met = meets_hypothesis net m form s is met
  opened_meets net m (Compare form) false s is met = meets_hypothesis net m (denial form) s (denied (value_at net (denial form) m) (value_at net form m) (denial_value net form m) is) met
  opened_meets net m (Fireable ts) true s is met = meets_choices net m (map (λ live. Enabled live.needs) (instances_of net ts) ∷ []) s (some_fits net m (instances_of net ts) is, tt) met
  opened_meets net m (Fireable ts) false s is met =
      meets_choices net m (map (λ live. map (λ need. Short need.0 need.1) live.needs) (instances_of net ts)) s (none_fits net m (instances_of net ts) is) met
  opened_meets net m (Not f) sign s is met = opened_meets net m f (not sign) s (turned (truth net m f) sign is) met
  opened_meets net m (And fs) true s is met = all_meet net m fs s is met
  opened_meets net m (And fs) false s is met = meets_choices net m (parts fs false ∷ []) s (some_false net m fs is, tt) met
  opened_meets net m (Or fs) true s is met = meets_choices net m (parts fs true ∷ []) s (some_true net m fs is, tt) met
  opened_meets net m (Or fs) false s is met = none_meet net m fs s is met

  all_meet : (net : Net) (m : Counts) (fs : Formulas) (s : State) → all_truth net m fs ≡ true → Meets net m s → Meets net m (opened_each net fs true s)
  all_meet net m End s is met = met
  all_meet net m (More f fs) s is met =
      let both = and_split (truth net m f) (all_truth net m fs) is in
      all_meet net m fs (opened net f true s) both.1 (opened_meets net m f true s both.0 met)

  none_meet : (net : Net) (m : Counts) (fs : Formulas) (s : State) → any_truth net m fs ≡ false → Meets net m s → Meets net m (opened_each net fs false s)
  none_meet net m End s is met = met
  none_meet net m (More f fs) s is met =
      let both = or_split (truth net m f) (any_truth net m fs) is in
      none_meet net m fs (opened net f false s) both.1 (opened_meets net m f false s both.0 met)

fit_each : (m : Counts) (needs : List (ℕ × ℕ)) → fits needs m ≡ true → AllByRecursion (λ bound. bound.1 ≤ m bound.0) needs
fit_each m [] h = tt
fit_each m (need ∷ needs) h =
    let both = and_split (nat_le need.1 (m need.0)) (fits needs m) h in
    (fact need.1 (m need.0) both.0, fit_each m needs both.1)
  where
    fact : (n k : ℕ) → nat_le n k ≡ true → n ≤ k
    fact n k e = grind (arith, nat_tests)

-- a marking that fulfils an item meets the state in which it is entered
pub entered_meets : (net : Net) (m : Counts) (item : Item) (s : State) → Fulfils net m item → Meets net m s → Meets net m (entered net item s)
entered_meets net m (Opens f sign) s is met = opened_meets net m f sign s is met
entered_meets net m (Enabled needs) s is met = record {
  hypotheses = met.hypotheses;
  choices = met.choices;
  lowers = all_more (λ bound. bound.1 ≤ m bound.0) s.lowers needs met.lowers (fit_each m needs is);
  uppers = met.uppers;
}
entered_meets net m (Short p n) s is met = record {
  hypotheses = met.hypotheses;
  choices = met.choices;
  lowers = met.lowers;
  uppers = all_more (λ bound. m bound.0 ≤ bound.1) s.uppers ((p, n - 1) ∷ []) met.uppers (omega arith, tt);
}
