use Rattle.std.proofs.Common.{◌∙◌, ap, length}
use Rattle.std.proofs.lemmas.List.FromFn.{length-map-range_with_len}
use Rattle.pt_net.specs.Systems.{size}
use Rattle.reductions.specs.Reduced.{fate_among, kept}
use Rattle.reductions.proofs.Slotting.{slots_long}
use Rattle.reductions.proofs.Making.{made_reduction, made_system}
use Rattle.reductions.proofs.reduced.reduce.Goals as goal

pub finish-net-requires : goal.finish-net-requires
finish-net-requires g c =
    made_system c.args.net.now c.in_ok-round.round.constant c.in_ok-round.round.live c.in_ok-merging.merging.kept.initial c.in_ok-merging.merging.keys c.in_ok-merging.merging.fates.items c.in_ok-merging.merging.kept.instances
    c.in_ok-round.ensures.system (c.in_ok-merging.ensures.initial ∙ c.in_ok-initial.ensures) c.in_ok-merging.ensures.merging

pub returns-clause-reduction : goal.returns-clause-reduction
returns-clause-reduction g c =
    made_reduction c.args.net.now c.finish-net.result c.in_ok-round.round.active c.in_ok-round.round.constant c.in_ok-round.round.live c.in_ok-round.round.alive c.in_ok-slots.slots.items c.in_ok-merging.merging.kept.initial
    c.in_ok-merging.merging.keys c.in_ok-merging.merging.fates.items c.in_ok-merging.merging.kept.instances c.in_ok-round.rounds c.in_ok-round.ensures.found c.in_ok-slots.ensures (c.in_ok-merging.ensures.initial ∙ c.in_ok-initial.ensures) c.in_ok-merging.ensures.merging c.finish-net.ensures c.in_ok-round.ensures.rounds

pub returns-clause-given : goal.returns-clause-given
returns-clause-given g c = (
  c.args.net.now,
  (
    c.in_ok-round.ensures.system,
    made_reduction c.args.net.now c.finish-net.result c.in_ok-round.round.active c.in_ok-round.round.constant c.in_ok-round.round.live c.in_ok-round.round.alive c.in_ok-slots.slots.items c.in_ok-merging.merging.kept.initial
        c.in_ok-merging.merging.keys c.in_ok-merging.merging.fates.items c.in_ok-merging.merging.kept.instances c.in_ok-round.rounds c.in_ok-round.ensures.found c.in_ok-slots.ensures (c.in_ok-merging.ensures.initial ∙ c.in_ok-initial.ensures) c.in_ok-merging.ensures.merging c.finish-net.ensures c.in_ok-round.ensures.rounds,
  ),
)

pub returns-clause-slots : goal.returns-clause-slots
returns-clause-slots g c = ap length c.in_ok-slots.ensures ∙ slots_long c.args.net.now c.in_ok-round.round.constant

pub returns-clause-fates : goal.returns-clause-fates
returns-clause-fates g c = ap length c.in_ok-merging.ensures.merging.told ∙ length-map-range_with_len (fate_among c.args.net.now c.in_ok-round.round.constant c.in_ok-round.round.live (kept c.args.net.now c.in_ok-round.round.constant c.in_ok-round.round.live)) 0 (size c.args.net.now)
