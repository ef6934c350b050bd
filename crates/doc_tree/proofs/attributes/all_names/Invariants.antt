use Rattle.doc_tree.specs.Known.{AreKnown}
use Rattle.doc_tree.proofs.attributes.all_names.Given as goal

abbrev pub invariant-loop : goal.invariant-loop
invariant-loop l = AreKnown l.known l.attributes
