use Rattle.line_words.proofs.LineEnds.{refused_at_end, stands_at_end}
use Rattle.line_words.proofs.reader.LineReader.finish.Goals as goal

pub returns-in-Some-clause-answers : goal.returns-in-Some-clause-answers
returns-in-Some-clause-answers g c b stands =
    refused_at_end g.D.TakesLines.follows g.D.TakesLines.answers c.args.self.cutter.taker c.args.self.cutter.number c.args.self.cutter.rest.items c.args.self.fault b c.in-Some.fault c.in-Some.is stands

pub returns-in-None-clause-answers : goal.returns-in-None-clause-answers
returns-in-None-clause-answers g c b stands =
    stands_at_end g.D.TakesLines.follows g.D.TakesLines.answers c.args.self.cutter.taker c.args.self.cutter.number c.args.self.cutter.rest.items c.args.self.fault b c.finish.result c.in-None.is stands c.finish.ensures
