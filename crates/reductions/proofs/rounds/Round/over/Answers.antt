use Rattle.std.proofs.Common.{◌∙◌, ap, length}
use Rattle.pt_net.specs.Systems.{places}
use Rattle.trap_siphon.proofs.Stages.{length-stage}
use Rattle.reductions.proofs.rounds.Round.over.Goals as goal

pub undead-requires-clause-marked : goal.undead-requires-clause-marked
undead-requires-clause-marked g c = ap length c.in_ok-marked.ensures.closed ∙ length-stage c.args.task.now.net.now c.args.on c.in_ok-start.start (places c.args.task.now.net.now)
