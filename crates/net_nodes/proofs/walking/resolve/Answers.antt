use Rattle.std.proofs.Common.{sym, ◌∙◌, get_or}
use Rattle.net_nodes.specs.declared.nodes.End.TheVariants as end
use Rattle.net_nodes.proofs.walking.resolve.Goals as goal

pub returns-in-Err-end_of-clause-refused : goal.returns-in-Err-end_of-clause-refused
returns-in-Err-end_of-clause-refused c = record {
  within = c.loop-at-test.true;
  before = λ k less. (get_or c.loop-at.ends.items k (end.Place 0), c.loop-at.invariant.1.each k (end.Place 0) less);
  is = sym c.end_of.ensures.is ∙ c.in-Err-end_of.is;
}
