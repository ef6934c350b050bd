use Rattle.pnml_inputs.proofs.Taken.{faulty}
use Rattle.pnml_inputs.proofs.intake.Intake.finish.Goals as goal

pub returns-in-Some : goal.returns-in-Some
returns-in-Some g c b has =
    faulty g.P.PieceReader.stands g.P.PieceReader.answers c.args.self.reader b c.in-Some.is (has.taken c.requires)
