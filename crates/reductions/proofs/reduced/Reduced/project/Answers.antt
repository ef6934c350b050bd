use Rattle.std.proofs.Common.{◌≡◌, ◌∙◌, rules}
use Rattle.reductions.specs.Slots.{projected}
use Rattle.reductions.proofs.Slotting.{projected_is}
use Rattle.reductions.proofs.reduced.Reduced.project.Goals as goal

pub returns : goal.returns
returns c = λ net reduction.
    let told : c.of.result ≡ projected c.args.self.now.slots.items c.args.marking.now = search rules in
    told ∙ projected_is net c.args.self.now.slots.items c.args.self.now.fates.items c.args.self.now.net c.args.self.now.rounds c.args.marking.now reduction
