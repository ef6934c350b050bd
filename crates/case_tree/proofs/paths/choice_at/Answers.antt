use Rattle.std.proofs.Common.{[], arith}
use Rattle.case_tree.specs.Agendas.{added_by}
use Rattle.case_tree.proofs.paths.choice_at.Goals as goal
use Rattle.case_tree.proofs.Finding.{found_here, found_later}

pub returns-then-left-choices-clause-some : goal.returns-then-left-choices-clause-some
returns-then-left-choices-clause-some g c =
    found_here (λ k. (added_by (g.A.Agenda.items c.args.agenda.now) k).choices) c.args.entered.now c.loop-item.item-index 0 c.loop-item.left c.args.at [] c.loop-item-test.true
    (omega (arith, c.choices-choices.ensures, c.if-left-choices.true)) c.loop-item.invariant.rest

pub loop-item-preserved : goal.loop-item-preserved
loop-item-preserved g c = record {
  within = omega (arith, c.loop-item-test.true);
  rest = found_later (λ k. (added_by (g.A.Agenda.items c.args.agenda.now) k).choices) c.args.entered.now c.loop-item.item-index 0 c.loop-item.left c.args.at c.choices-choices.result c.loop-item-test.true c.choices-choices.ensures
      (omega (arith, c.if-left-choices.false)) c.loop-item.invariant.rest;
}
