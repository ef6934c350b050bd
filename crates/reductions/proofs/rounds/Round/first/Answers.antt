use Rattle.std.proofs.Common.{◌∙◌}
use Rattle.reductions.proofs.Filling.{active_first}
use Rattle.reductions.proofs.Going.{alive_first, finds_round}
use Rattle.reductions.proofs.rounds.Round.first.Goals as goal

pub returns-clause-found : goal.returns-clause-found
returns-clause-found g c =
    finds_round c.args.task.now.net.now 0 c.in_ok-on.on c.in_ok-before.before c.in_ok-round.round.active c.in_ok-round.round.constant c.in_ok-round.round.live c.in_ok-round.round.alive
    c.in_ok-round.ensures.found (c.in_ok-on.ensures ∙ active_first c.args.task.now.net.now) (c.in_ok-before.ensures ∙ alive_first c.args.task.now.net.now)
