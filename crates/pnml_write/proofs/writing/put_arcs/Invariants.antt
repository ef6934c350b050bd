use Rattle.std.proofs.Common.{◌≡◌, ◌++◌, drop, map}
use Rattle.std.specs.List.{flat_map}
use Rattle.doc_model.specs.Texts.{text_of}
use Rattle.pnml_write.specs.Canon.{arc_tree}
use Rattle.pnml_write.proofs.writing.put_arcs.Given as goal

abbrev pub invariant-loop-arc : goal.invariant-loop-arc
invariant-loop-arc l = l.writer ++ flat_map text_of (map arc_tree (drop l.arc-index l.arcs)) ≡ l.fn.writer ++ flat_map text_of (map arc_tree l.arcs)
