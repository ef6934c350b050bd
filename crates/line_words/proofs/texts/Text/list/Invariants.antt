use Rattle.std.proofs.Common.{◌≡◌, ◌++◌, take}
use Rattle.line_words.specs.Texts.{all_spaced}
use Rattle.line_words.proofs.texts.Text.list.Given as goal

abbrev pub invariant-loop-value : goal.invariant-loop-value
invariant-loop-value g l = l.self ≡ l.fn.self ++ all_spaced g.T.Spelled.spelling (take l.value-index l.values)
