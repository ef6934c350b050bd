use Rattle.std.proofs.Common.{◌≡◌, drop}
use Rattle.doc_tree.specs.Documents.{is_fresh}
use Rattle.doc_tree.proofs.attributes.is_fresh.Given as goal

abbrev pub invariant-loop-attribute : goal.invariant-loop-attribute
invariant-loop-attribute l = is_fresh l.name l.attributes ≡ is_fresh l.name (drop l.attribute-index l.attributes)
