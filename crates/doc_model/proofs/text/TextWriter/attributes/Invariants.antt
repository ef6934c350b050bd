use Rattle.std.proofs.Common.{◌≡◌, ◌++◌, take}
use Rattle.std.specs.List.{flat_map}
use Rattle.doc_model.specs.Texts.{attribute_text}
use Rattle.doc_model.proofs.text.TextWriter.attributes.Given as goal

abbrev pub invariant-loop-attribute : goal.invariant-loop-attribute
invariant-loop-attribute l = l.self ≡ l.fn.self ++ flat_map attribute_text (take l.attribute-index l.attributes)
