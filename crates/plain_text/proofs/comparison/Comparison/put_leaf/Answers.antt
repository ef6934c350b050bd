use Rattle.plain_text.proofs.Leaves.{leaf_text-text}
use Rattle.plain_text.proofs.comparison.Comparison.put_leaf.Goals as goal

pub returns : goal.returns
returns c = rw (leaf_text-text c.args.name.now c.args.text.now) c.put_text_element.ensures
