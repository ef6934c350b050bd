use Rattle.std.proofs.Common.{◌≡◌, ◌++◌, drop, map}
use Rattle.std.specs.List.{flat_map}
use Rattle.doc_model.specs.Texts.{text_of}
use Rattle.pnml_write.specs.Canon.{transition_tree}
use Rattle.pnml_write.proofs.writing.put_transitions.Given as goal

abbrev pub invariant-loop-transition : goal.invariant-loop-transition
invariant-loop-transition l = l.writer ++ flat_map text_of (map transition_tree (drop l.transition-index l.transitions)) ≡ l.fn.writer ++ flat_map text_of (map transition_tree l.transitions)
