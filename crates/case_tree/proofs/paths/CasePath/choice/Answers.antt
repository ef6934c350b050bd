use Rattle.std.proofs.Common.{arith}
use Rattle.case_tree.proofs.paths.CasePath.choice.Goals as goal
use Rattle.case_tree.proofs.Finding.{choice_found}

pub returns-clause-some : goal.returns-clause-some
returns-clause-some g c =
    rw (← c.self.view_is, choice_found (g.A.Agenda.items c.self.inside.agenda) c.self.inside.entered.items c.args.number (omega (arith, c.if-number-eq0.false)), ← c.deref.ensures.value) c.choice_at.ensures.some

pub returns-clause-none : goal.returns-clause-none
returns-clause-none g c =
    rw (← c.self.view_is, choice_found (g.A.Agenda.items c.self.inside.agenda) c.self.inside.entered.items c.args.number (omega (arith, c.if-number-eq0.false)), ← c.deref.ensures.value) c.choice_at.ensures.none
