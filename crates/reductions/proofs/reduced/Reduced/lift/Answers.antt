use Rattle.std.proofs.Common.{◌≡◌, ◌∙◌, map, rules}
use Rattle.reductions.specs.Slots.{slot_count}
use Rattle.reductions.proofs.Slotting.{lifted_is, slots_fit}
use Rattle.reductions.proofs.reduced.Reduced.lift.Goals as goal

pub lift-requires-clause-fits : goal.lift-requires-clause-fits
lift-requires-clause-fits c =
    rw (c.counts.ensures.counts, c.as_slice.ensures.value) (slots_fit c.args.self.now.slots.items c.args.self.now.fates.items c.args.self.now.net c.args.self.now.rounds c.args.marking.now c.requires.given c.requires.length)

pub returns : goal.returns
returns c = λ net reduction.
    let told : c.of.result ≡ map (slot_count c.args.marking.now) c.args.self.now.slots.items = search rules in
    told ∙ lifted_is net c.args.self.now.slots.items c.args.self.now.fates.items c.args.self.now.net c.args.self.now.rounds c.args.marking.now reduction
