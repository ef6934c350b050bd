use Rattle.std.proofs.Common.{sym, subst, ◌≡◌, ◌∷◌, take, drop}
use Rattle.line_words.specs.Words.{words_of}
use Rattle.line_words.proofs.Cutting.{words-cut}
use Rattle.line_words.proofs.words.cut_word.Goals as goal

pub returns : goal.returns
returns c =
    let b = c.args.bytes.now in
    let at : words_of b ≡ take c.word_length.result b ∷ words_of (drop c.word_length.result b) =
    subst (λ n. words_of b ≡ take n b ∷ words_of (drop n b)) (sym c.word_length.ensures.length) (words-cut b c.requires.some c.requires.head) in
    rw (c.split_at.ensures.front, c.split_at.ensures.back) at
