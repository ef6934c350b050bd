use Rattle.line_words.proofs.LineEnds.{cut_parts}
use Rattle.line_words.proofs.words.cut_line.Goals as goal

pub returns : goal.returns
returns c =
    let parts = cut_parts 10 c.args.bytes.now c.cut_at.result.0.now c.cut_at.result.1 c.cut_at.ensures.before c.cut_at.ensures.behind in
    record { whole = parts.0; some = parts.1; none = parts.2 }
