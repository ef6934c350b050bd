use Rattle.std.proofs.Common.{◌≡◌, ◌++◌, length}
use Rattle.std.specs.Option.{option_map}
use Rattle.line_words.specs.Lists.{all_of}
use Rattle.line_words.proofs.lists.read_list.Given as goal

abbrev pub invariant-loop-word : goal.invariant-loop-word
invariant-loop-word g l = all_of g.T.Listed.meaning l.fn.words ≡ option_map (λ later. l.list.items ++ later) (all_of g.T.Listed.meaning l.words)

abbrev pub decreases-loop-word : goal.decreases-loop-word
decreases-loop-word g l = length l.words
