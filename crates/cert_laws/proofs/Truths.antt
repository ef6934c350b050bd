-- A formula has the same truth at a reached marking and on its reduced places.
use Rattle.std.proofs.Common.{◌≡◌, ℕ, ◌-◌, ◌<◌, Bool, true, false, ◌&&◌, ◌||◌, not, nat_eq, inl, inr, List, map, filter, refl, ap, sym, ◌∙◌, pos, slice_index}
use Rattle.std.specs.Prelude.{int_le}
use Rattle.std.specs.List.{list_any, range_with_len}
use Rattle.std.proofs.lemmas.Bool.{cases_Bool, false≢true, false_from_ne_true}
use Rattle.pt_net.specs.Systems.{NetSystem, IsSystem, PtReach, size}
use Rattle.trap_siphon.specs.Sets.{has}
use Rattle.reductions.specs.Numbers.{numbers}
use Rattle.reductions.specs.Rounds.{rounds}
use Rattle.reductions.specs.Reduced.{last_active}
use Rattle.reductions.specs.Slots.{last_constant}
use Rattle.reductions.specs.Laws.{KeepsConstants}
use Rattle.reductions.proofs.Runs.{enabled_active}
use Rattle.reductions.proofs.Reduces.{reach_down}
use Rattle.cert_model.specs.Nets.{Counts, Live}
use Rattle.cert_model.specs.Formulas.{Formula, Formulas, Compare, Fireable, Not, And, Or, End, More, fits, truth, all_truth, any_truth}
use Rattle.cert_laws.specs.PlainNets.{plain, plain_live, last_live, reduced_live, plain_reduced, kept_counts}
use Rattle.cert_laws.specs.Reducing.{reduced_formula, reduced_formulas}
use Rattle.cert_laws.specs.Laws.{FormulasAreReduced}
use Rattle.cert_laws.proofs.Lists.{list_any-map, list_any-filter, any-range, any-numbers}
use Rattle.cert_laws.proofs.Inputs.{enabled-fits, fits-enabled}
use Rattle.cert_laws.proofs.Firing.{live-exact, enabled-live}
use Rattle.cert_laws.proofs.Values.{same_value}

-- one of the listed live instances has its inputs there
abbrev pub is_listed : List ℕ → Live → Bool
is_listed transitions live = list_any (nat_eq live.transition) transitions

pub listed : (transitions : List ℕ) (counts : Counts) (f : ℕ → Live) (xs : List ℕ)
    → list_any (λ live. fits live.needs counts) (filter (is_listed transitions) (map f xs)) ≡ list_any (λ i. is_listed transitions (f i) && fits (f i).needs counts) xs
listed transitions counts f xs =
    list_any-filter (λ live. fits live.needs counts) (is_listed transitions) (map f xs)
    ∙ list_any-map (λ live. is_listed transitions live && fits live.needs counts) f xs

same_bool : (a b : Bool) → (a ≡ true → b ≡ true) → (b ≡ true → a ≡ true) → a ≡ b
same_bool true b to from = sym (to refl)
same_bool false true to from = from refl
same_bool false false to from = refl

off : (t a b : Bool) → a ≡ false → (t && a) ≡ (false && (t && b))
off true a b is = is
off false a b is = refl

same_fits : (net : NetSystem) (marking transitions : List ℕ) (i : ℕ) → IsSystem net → PtReach net marking → i < size net
    → (is_listed transitions (plain_live net i) && fits (plain_live net i).needs (slice_index marking))
    ≡ (has (last_live net) i && (is_listed transitions (reduced_live net i) && fits (reduced_live net i).needs (kept_counts net marking)))
same_fits net marking transitions i is_system reach inside = elim (cases_Bool (has (last_live net) i)) [
  | inl alive ↦
      let exact = live-exact net is_system marking i reach alive in
      let same : fits (plain_live net i).needs (slice_index marking) ≡ fits (reduced_live net i).needs (kept_counts net marking) =
      same_bool (fits (plain_live net i).needs (slice_index marking)) (fits (reduced_live net i).needs (kept_counts net marking))
      (λ fit. exact.0 (fits-enabled net marking i is_system inside fit)) (λ fit. enabled-fits net marking i (exact.1 fit)) in
      ap (λ b. is_listed transitions (plain_live net i) && b) same
      ∙ ap (λ b. b && (is_listed transitions (reduced_live net i) && fits (reduced_live net i).needs (kept_counts net marking))) (sym alive)
  | inr gone ↦
      off (is_listed transitions (plain_live net i)) (fits (plain_live net i).needs (slice_index marking)) (fits (reduced_live net i).needs (kept_counts net marking))
      (false_from_ne_true (fits (plain_live net i).needs (slice_index marking)) (λ fit. false≢true (sym gone ∙ enabled-live net marking i reach inside (fits-enabled net marking i is_system inside fit))))
      ∙ ap (λ b. b && (is_listed transitions (reduced_live net i) && fits (reduced_live net i).needs (kept_counts net marking))) (sym gone)
]

pub same_fireable : (net : NetSystem) (marking transitions : List ℕ) → IsSystem net → PtReach net marking
    → truth (plain net) (slice_index marking) (Fireable transitions) ≡ truth (plain_reduced net) (kept_counts net marking) (Fireable transitions)
same_fireable net marking transitions is_system reach =
    listed transitions (slice_index marking) (plain_live net) (range_with_len 0 (size net))
    ∙ any-range (λ i. is_listed transitions (plain_live net i) && fits (plain_live net i).needs (slice_index marking))
    (λ i. has (last_live net) i && (is_listed transitions (reduced_live net i) && fits (reduced_live net i).needs (kept_counts net marking))) (size net)
    (λ i inside. same_fits net marking transitions i is_system reach inside)
    ∙ sym (any-numbers (λ i. is_listed transitions (reduced_live net i) && fits (reduced_live net i).needs (kept_counts net marking)) (size net) (has (last_live net)))
    ∙ sym (listed transitions (kept_counts net marking) (reduced_live net) (numbers (size net) (has (last_live net))))

mutual
  same_truth : (net : NetSystem) (marking : List ℕ) → IsSystem net → PtReach net marking → KeepsConstants net (last_constant net) marking → (f : Formula)
      → truth (plain net) (slice_index marking) f ≡ truth (plain_reduced net) (kept_counts net marking) (reduced_formula net f)
  same_truth net marking is_system reach keeps (Compare form) = ap (int_le (pos 0)) (same_value net marking form keeps)
  same_truth net marking is_system reach keeps (Fireable transitions) = same_fireable net marking transitions is_system reach
  same_truth net marking is_system reach keeps (Not f) = ap not (same_truth net marking is_system reach keeps f)
  same_truth net marking is_system reach keeps (And fs) = (same_truths net marking is_system reach keeps fs).0
  same_truth net marking is_system reach keeps (Or fs) = (same_truths net marking is_system reach keeps fs).1

  same_truths : (net : NetSystem) (marking : List ℕ) → IsSystem net → PtReach net marking → KeepsConstants net (last_constant net) marking → (fs : Formulas)
      → (all_truth (plain net) (slice_index marking) fs ≡ all_truth (plain_reduced net) (kept_counts net marking) (reduced_formulas net fs))
      × (any_truth (plain net) (slice_index marking) fs ≡ any_truth (plain_reduced net) (kept_counts net marking) (reduced_formulas net fs))
  same_truths net marking is_system reach keeps End = (refl, refl)
  same_truths net marking is_system reach keeps (More f fs) =
      let first = same_truth net marking is_system reach keeps f in
      let rest = same_truths net marking is_system reach keeps fs in (
        ap (λ b. b && all_truth (plain net) (slice_index marking) fs) first ∙ ap (λ b. truth (plain_reduced net) (kept_counts net marking) (reduced_formula net f) && b) rest.0,
        ap (λ b. b || any_truth (plain net) (slice_index marking) fs) first ∙ ap (λ b. truth (plain_reduced net) (kept_counts net marking) (reduced_formula net f) || b) rest.1,
      )

pub formulas_are_reduced : (net : NetSystem) → IsSystem net → FormulasAreReduced net
formulas_are_reduced net is_system marking f reach =
    same_truth net marking is_system reach (reach_down net (last_active net) marking is_system (enabled_active net (rounds net - 1)) reach).0 f
