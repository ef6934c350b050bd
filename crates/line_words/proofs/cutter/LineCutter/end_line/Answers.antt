use Rattle.std.proofs.Common.{◌++◌, ◌+◌, subst, Err}
use Rattle.line_words.specs.Words.{lines_of}
use Rattle.line_words.proofs.LineEnds.{ended}
use Rattle.line_words.proofs.cutter.LineCutter.end_line.Goals as goal

pub returns-in-Ok-clause-read : goal.returns-in-Ok-clause-read
returns-in-Ok-clause-read g c more r f =
    let follows = g.D.TakesLines.follows in
    subst (λ l. follows c.args.self.now.taker c.args.self.now.number l r) (ended c.args.self.now.rest.items c.args.end.now more c.args.self.now.whole c.requires.whole)
    (c.in-Ok.ensures.taken (lines_of more) r (subst (λ w. follows c.hand_on.new.taker (c.args.self.now.number + 1) (lines_of (w ++ more)) r) c.in-Ok.ensures.rest f))

pub returns-in-Err-clause-fault : goal.returns-in-Err-clause-fault
returns-in-Err-clause-fault g c more =
    subst (λ l. g.D.TakesLines.follows c.args.self.now.taker c.args.self.now.number l (Err c.in-Err.fault)) (ended c.args.self.now.rest.items c.args.end.now more c.args.self.now.whole c.requires.whole)
    (c.in-Err.ensures.refused (lines_of more))
