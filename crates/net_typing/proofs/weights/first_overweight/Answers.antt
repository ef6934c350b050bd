use Rattle.std.proofs.Common.{sym}
use Rattle.std.proofs.lemmas.Bool.{ltb-true}
use Rattle.net_typing.proofs.Weighing.{few-within}
use Rattle.net_typing.proofs.weights.first_overweight.Goals as goal

pub returns-then-are_few : goal.returns-then-are_few
returns-then-are_few c = few-within c.args.arcs.now (ltb-true _ _ (sym c.if-are_few.ensures))
