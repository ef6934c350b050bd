use Rattle.commands.proofs.Read.{nothing_asked}
use Rattle.commands.proofs.running.run.Goals as goal

pub returns-in-Ok-clause-too_long : goal.returns-in-Ok-clause-too_long
returns-in-Ok-clause-too_long g c = nothing_asked _ (g.F.Files.held c.args.files.now)
