use Rattle.std.proofs.Common.{◌≡◌, take}
use Rattle.doc_model.specs.Texts.{escaped}
use Rattle.plain_text.proofs.comparison.are_plain.Given as goal

abbrev pub invariant-loop-character : goal.invariant-loop-character
invariant-loop-character l = escaped (take l.character-index l.text) ≡ take l.character-index l.text
