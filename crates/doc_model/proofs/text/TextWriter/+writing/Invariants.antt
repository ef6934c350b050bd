use Rattle.std.proofs.Common.{◌≡◌, ◌++◌, take}
use Rattle.std.specs.List.{flat_map}
use Rattle.doc_model.specs.Texts.{text_of}
use Rattle.doc_model.proofs.text.TextWriter.+writing.Given as goal

abbrev pub invariant-children-loop-child : goal.invariant-children-loop-child
invariant-children-loop-child l = l.self ≡ l.fn.self ++ flat_map text_of (take l.child-index l.children)
