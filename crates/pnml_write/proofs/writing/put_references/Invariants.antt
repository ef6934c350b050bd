use Rattle.std.proofs.Common.{◌≡◌, ◌++◌, drop, map}
use Rattle.std.specs.List.{flat_map}
use Rattle.doc_model.specs.Texts.{text_of}
use Rattle.pnml_write.specs.Canon.{reference_tree}
use Rattle.pnml_write.proofs.writing.put_references.Given as goal

abbrev pub invariant-loop-reference : goal.invariant-loop-reference
invariant-loop-reference l = l.writer ++ flat_map text_of (map reference_tree (drop l.reference-index l.references)) ≡ l.fn.writer ++ flat_map text_of (map reference_tree l.references)
