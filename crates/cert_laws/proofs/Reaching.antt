-- A net as plain data reaches what the net reaches, and a shown section is sound.
use Rattle.std.proofs.Common.{ℕ, ◌-◌, ◌<◌, List, [], ◌∷◌, map, arith, ap, ◌∙◌, slice_index}
use Rattle.std.specs.Prelude.{Contains}
use Rattle.std.specs.List.{range_with_len}
use Rattle.std.proofs.lemmas.List.FromFn.{length-map-range_with_len, get_or-map-range_with_len}
use Rattle.pt_net.specs.Firing as firing
use Rattle.pt_net.specs.Systems as systems
use Rattle.pt_net.specs.Systems.{NetSystem, IsSystem, instance_at, PtReach, size}
use Rattle.reductions.specs.Rounds.{rounds}
use Rattle.reductions.specs.Reduced.{last_active, reduced, without_constants}
use Rattle.reductions.specs.Slots.{last_constant}
use Rattle.reductions.proofs.Runs.{enabled_active}
use Rattle.reductions.proofs.Reduces.{reach_down}
use Rattle.cert_model.specs.Nets.{Instance, Net, Run, Reach}
use Rattle.cert_model.proofs.Judgements.{shown_sections_hold}
use Rattle.cert_laws.specs.PlainNets.{plain, plain_instance, plain_reduced, kept_counts}
use Rattle.cert_laws.specs.Reducing.{reduced_formula}
use Rattle.cert_laws.specs.Laws.{ShownHoldsAtReached}
use Rattle.cert_laws.proofs.Truths.{formulas_are_reduced}

has_each : (net : NetSystem) (i : ℕ) → i < size net → Contains (map (plain_instance net) (range_with_len 0 (size net))) (plain_instance net i)
has_each net i inside =
    let long = length-map-range_with_len (plain_instance net) 0 (size net) in
    (i, omega arith, get_or-map-range_with_len (plain_instance net) 0 (size net) i i (plain_instance net i) inside (omega arith))

-- for any plain net that has the instances
run_plain : (net : NetSystem) (into : Net) → ((i : ℕ) → i < size net → Contains into.kept (plain_instance net i)) → (is old new : List ℕ) → systems.Run net old is new
    → (js : List Instance) × Run into (slice_index old) js (slice_index new)
run_plain net into each [] old new run = ([], ap (λ (m : List ℕ). slice_index m) run)
run_plain net into each (i ∷ is) old new run =
    let mid = run.1.0 in
    let fires : firing.Fires old (instance_at net i) mid = run.1.1.0 in
    let rest = run_plain net into each is mid new run.1.1.1 in
    (plain_instance net i ∷ rest.0, (each i run.0, (slice_index mid, (record { enabled = fires.enabled; moves = fires.moved }, rest.1))))

pub reach_plain : (net : NetSystem) (marking : List ℕ) → PtReach net marking → Reach (plain net) (slice_index marking)
reach_plain net marking reach = run_plain net (plain net) (has_each net) reach.0 net.initial marking reach.1

pub reach_reduced : (net : NetSystem) (marking : List ℕ) → IsSystem net → PtReach net marking → Reach (plain_reduced net) (kept_counts net marking)
reach_reduced net marking is_system reach =
    let down = (reach_down net (last_active net) marking is_system (enabled_active net (rounds net - 1)) reach).1 in
    run_plain (reduced net) (plain_reduced net) (has_each (reduced net)) down.0 (reduced net).initial (without_constants net (last_constant net) marking) down.1

pub shown_holds_at_reached : (net : NetSystem) → IsSystem net → ShownHoldsAtReached net
shown_holds_at_reached net is_system stated invariant tree whole shown marking reach =
    formulas_are_reduced net is_system marking invariant reach
    ∙ shown_sections_hold (plain_reduced net) stated (record { invariant = reduced_formula net invariant; tree = tree }) whole shown (kept_counts net marking) (reach_reduced net marking is_system reach)
