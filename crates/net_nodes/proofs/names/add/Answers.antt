use Rattle.net_nodes.proofs.Added.{added}
use Rattle.net_nodes.proofs.names.add.Goals as goal

pub returns : goal.returns
returns c = added c.args.ids.now c.args.name.now c.in_ok-copy.field-0 c.in_ok-add.field-0 c.add.new.self c.requires.apart c.in_ok-copy.ensures c.in_ok-add.ensures.added
