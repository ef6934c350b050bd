-- Truth on the unfolded net and satisfaction by a marking.
use Rattle.std.proofs.Common.{◌≡◌, ℕ, ◌+◌, ◌-◌, ◌<◌, ◌≤◌, inl, inr, Bool, true, List, map, length, pos, ◌+ℤ◌, neg_ℤ, ℤ, arith, refl, subst, sym, ◌∙◌, Ok}
use Rattle.std.specs.Prelude.{◌↔◌, int_le, slice_index, Contains}
use Rattle.std.specs.List.{range_with_len}
use Rattle.std.proofs.lemmas.Int.{ints}
use Rattle.std.proofs.lemmas.Bool.{cases_lt, and_parts, and_from, or_cases, or_left, or_right, not-true, not_from_false, false_from_ne_true, false≢true}
use Rattle.std.proofs.lemmas.Bool.Decides.{nat_tests}
use Rattle.std.proofs.lemmas.List.{get_or_past}
use Rattle.std.proofs.lemmas.List.FromFn.{length-map-range_with_len, get_or-map-range_with_len}
use Rattle.pt_net.specs.Firing as place_transition
use Rattle.pt_net.specs.Systems.{NetSystem, IsSystem, instance_at, places, size, pre, post}
use Rattle.reductions.proofs.Rows.{amount-outside}
use Rattle.reductions.proofs.Reduces.{rows_in_range}
use Rattle.cert_model.specs.Forms.{value_at}
use Rattle.cert_model.specs.Formulas.{truth, all_truth, any_truth}
use Rattle.cert_laws.specs.PlainNets.{plain}
use Rattle.cert_laws.specs.Laws.{SomeIsEnabled}
use Rattle.cert_laws.proofs.Plain.{plain_nets_mean_the_same}
use Rattle.cert_laws.proofs.Reaching.{shown_holds_at_reached}
use Rattle.net_firing.specs.Coloured.{ColouredNet}
use Rattle.net_firing.specs.Firing.{Mode}
use Rattle.net_firing.specs.Markings.{Marking, tokens}
use Rattle.net_firing.specs.Unfolding.{Flat, unfolding_of}
use Rattle.net_firing.proofs.Firings.{firings, numbered_modes, reaches}
use Rattle.net_firing.proofs.Maps.{some_flat}
use Rattle.net_firing.proofs.Places.{many}
use Rattle.net_props.specs.Properties.{StateFormula, StateFormulas, AtMost, Fireable, Not, And, Or, End, More, CanFire, Sat, SatAll, SatSome, invariant_of, value}
use Rattle.net_props.specs.Resolved.{resolved, resolved_all, difference}
use Rattle.net_props.specs.Laws.{ResolvedMeansTheSame, ShownHolds}
use Rattle.net_props.proofs.Counts.{as_many, difference-is}

-- comparisons
at_most-from : (a b : ℕ) (v : ℤ) → v ≡ pos b +ℤ neg_ℤ (pos a) → int_le (pos 0) v ≡ true → a ≤ b
at_most-from a b v is h = grind (arith, ints, nat_tests)

at_most-to : (a b : ℕ) (v : ℤ) → v ≡ pos b +ℤ neg_ℤ (pos a) → a ≤ b → int_le (pos 0) v ≡ true
at_most-to a b v is h = grind (arith, ints, nat_tests)

-- an instance that is enabled fires to some counts
abbrev moved_at : NetSystem → List ℕ → ℕ → ℕ → ℕ
moved_at u old i p = slice_index old p - pre u i p + post u i p

abbrev fired_counts : NetSystem → List ℕ → ℕ → List ℕ
fired_counts u old i = map (moved_at u old i) (range_with_len 0 (places u))

fires_to : (u : NetSystem) (old : List ℕ) (i : ℕ) → IsSystem u → i < size u → length old ≡ places u → place_transition.IsEnabled old (instance_at u i)
    → place_transition.Fires old (instance_at u i) (fired_counts u old i)
fires_to u old i is_system inside long enabled =
    let range = rows_in_range u i is_system inside in
    let many = length-map-range_with_len (moved_at u old i) 0 (places u) in
    record {
      enabled = enabled;
      as_long = many ∙ sym long;
      moved = λ p. elim (cases_lt p (places u)) [
        | inl low ↦
            let at : slice_index (fired_counts u old i) p ≡ moved_at u old i p = get_or-map-range_with_len (moved_at u old i) 0 (places u) p p 0 low (omega arith) in
            let enough = enabled p in
            omega arith
        | inr past ↦
            let none = amount-outside (places u) p (instance_at u i).pre past range.pre in
            let none' = amount-outside (places u) p (instance_at u i).post past range.post in
            let left = get_or_past (fired_counts u old i) p 0 (omega arith) in
            let right = get_or_past old p 0 (omega arith) in
            omega arith
      ];
    }

fire-from : (net : ColouredNet) (u : NetSystem) (m : Marking) (transitions : List ℕ) → unfolding_of net ≡ Ok u → IsSystem u → SomeIsEnabled u (Flat net m) transitions → CanFire net m transitions
fire-from net u m transitions e is_system some =
    let i = some.instance in
    let from = (numbered_modes net u e).origin i some.there in
    let mode : Mode = from.0 in
    let comes = from.1.1.1.1 in
    let long : length (Flat net m) ≡ places u = many net (tokens m) ∙ sym (as_many net u e) in
    let fires = fires_to u (Flat net m) i is_system some.there long some.enabled in
    let new = some_flat net (fired_counts u (Flat net m) i) (fires.as_long ∙ many net (tokens m)) in
    record {
      mode = mode;
      listed = subst (λ (t : ℕ). Contains transitions t) comes.transition some.listed;
      new = new.0;
      fires = (firings net u e).coloured m new.0 mode i new.1.0 comes (subst (λ (counts : List ℕ). place_transition.Fires (Flat net m) (instance_at u i) counts) (sym new.1.1) fires);
    }

fire-to : (net : ColouredNet) (u : NetSystem) (m : Marking) (transitions : List ℕ) → unfolding_of net ≡ Ok u → CanFire net m transitions → SomeIsEnabled u (Flat net m) transitions
fire-to net u m transitions e can =
    let found = ((firings net u e).unfolded m can.new can.mode can.fires).1 in
    record {
      instance = found.0;
      there = found.1.0.there;
      listed = subst (λ (t : ℕ). Contains transitions t) (sym found.1.0.transition) can.listed;
      enabled = found.1.1.enabled;
    }

-- by induction over the formula
mutual
  means : (net : ColouredNet) (u : NetSystem) → unfolding_of net ≡ Ok u → IsSystem u → (m : Marking) (f : StateFormula)
      → (truth (plain u) (slice_index (Flat net m)) (resolved net f) ≡ true) ↔ Sat net m f
  means net u e is_system m (AtMost a b) =
      let is = difference-is net u m a b e in (
        at_most-from (value net m a) (value net m b) (value_at (plain u) (difference net a b) (slice_index (Flat net m))) is,
        at_most-to (value net m a) (value net m b) (value_at (plain u) (difference net a b) (slice_index (Flat net m))) is,
      )
  means net u e is_system m (Fireable transitions) =
      let same = (plain_nets_mean_the_same u is_system).fireable (Flat net m) transitions in (
        λ holds. fire-from net u m transitions e is_system (same.0 holds),
        λ can. same.1 (fire-to net u m transitions e can),
      )
  means net u e is_system m (Not f) =
      let same = means net u e is_system m f in (
        λ holds sat. false≢true (sym (not-true (truth (plain u) (slice_index (Flat net m)) (resolved net f)) holds) ∙ same.1 sat),
        λ none. not_from_false (truth (plain u) (slice_index (Flat net m)) (resolved net f)) (false_from_ne_true (truth (plain u) (slice_index (Flat net m)) (resolved net f)) (λ holds. none (same.0 holds))),
      )
  means net u e is_system m (And fs) = (means_all net u e is_system m fs).0
  means net u e is_system m (Or fs) = (means_all net u e is_system m fs).1

  means_all : (net : ColouredNet) (u : NetSystem) → unfolding_of net ≡ Ok u → IsSystem u → (m : Marking) (fs : StateFormulas)
      → ((all_truth (plain u) (slice_index (Flat net m)) (resolved_all net fs) ≡ true) ↔ SatAll net m fs)
      × ((any_truth (plain u) (slice_index (Flat net m)) (resolved_all net fs) ≡ true) ↔ SatSome net m fs)
  means_all net u e is_system m End = ((λ holds. tt, λ sat. refl), (λ holds. false≢true holds, λ sat. absurd sat))
  means_all net u e is_system m (More f fs) =
      let first = means net u e is_system m f in
      let rest = means_all net u e is_system m fs in
      let here : Bool = truth (plain u) (slice_index (Flat net m)) (resolved net f) in
      let all : Bool = all_truth (plain u) (slice_index (Flat net m)) (resolved_all net fs) in
      let some : Bool = any_truth (plain u) (slice_index (Flat net m)) (resolved_all net fs) in (
        (λ holds. let both = and_parts here all holds in (first.0 both.0, rest.0.0 both.1), λ sat. and_from here all (first.1 sat.0) (rest.0.1 sat.1)),
        (
          λ holds. elim (or_cases here some holds) [ inl one ↦ inl (first.0 one) | inr later ↦ inr (rest.1.0 later) ],
          λ sat. elim sat [ inl one ↦ or_left here some (first.1 one) | inr later ↦ or_right here some (rest.1.1 later) ],
        ),
      )

pub resolved_means_the_same : (net : ColouredNet) (u : NetSystem) → unfolding_of net ≡ Ok u → IsSystem u → ResolvedMeansTheSame net u
resolved_means_the_same net u e is_system m f marking = means net u e is_system m f

pub shown_holds : (net : ColouredNet) (u : NetSystem) → unfolding_of net ≡ Ok u → IsSystem u → ShownHolds net u
shown_holds net u e is_system stated goal tree whole shown m reach =
    let there = (reaches net u e).unfolded m reach in
    (means net u e is_system m (invariant_of goal)).0 (shown_holds_at_reached u is_system stated (resolved net (invariant_of goal)) tree whole shown (Flat net m) there.1)
