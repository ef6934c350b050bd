use Rattle.std.proofs.Common.{◌≡◌, ◌++◌, take}
use Rattle.doc_model.specs.Texts.{escaped}
use Rattle.plain_text.proofs.comparison.Comparison.put_characters.Given as goal

abbrev pub invariant-loop-character : goal.invariant-loop-character
invariant-loop-character l = l.self ≡ l.fn.self ++ escaped (take l.character-index l.text)
