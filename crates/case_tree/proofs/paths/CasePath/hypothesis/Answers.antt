use Rattle.std.proofs.Common.{arith}
use Rattle.case_tree.proofs.paths.CasePath.hypothesis.Goals as goal
use Rattle.case_tree.proofs.Finding.{hypothesis_found}

pub returns : goal.returns
returns g c =
    rw (← c.self.view_is, hypothesis_found (g.A.Agenda.items c.self.inside.agenda) c.self.inside.entered.items c.args.number (omega (arith, c.if-number-eq0.false)), ← c.deref.ensures.value) c.hypothesis_at.ensures
