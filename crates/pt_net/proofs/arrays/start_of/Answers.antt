use Rattle.std.proofs.Common.{◌∙◌}
use Rattle.pt_net.proofs.InArrays.{start_next}
use Rattle.pt_net.proofs.arrays.start_of.Goals as goal

pub returns : goal.returns
returns c = c.end.ensures ∙ start_next c.args.side c.args.heads.now c.args.instance _ c.if-instance-eq0.false c.requires
