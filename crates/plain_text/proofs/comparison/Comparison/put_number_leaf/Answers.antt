use Rattle.std.proofs.Common.{rules}
use Rattle.plain_text.proofs.Leaves.{leaf_text-number}
use Rattle.plain_text.proofs.comparison.Comparison.put_number_leaf.Goals as goal

pub returns : goal.returns
returns c = rw (leaf_text-number c.args.name.now c.args.number (search rules)) c.put_number_element.ensures
