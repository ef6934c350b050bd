use Rattle.std.proofs.Common.{arith, ap, sym, ◌∙◌, Some}
use Rattle.case_tree.specs.Agendas.{added_by}
use Rattle.case_tree.proofs.paths.hypothesis_at.Goals as goal
use Rattle.case_tree.proofs.Finding.{found_here, found_later}

pub returns-then-left-hypotheses : goal.returns-then-left-hypotheses
returns-then-left-hypotheses g c =
    ap Some c.hypothesis.ensures
    ∙ sym (found_here (λ k. (added_by (g.A.Agenda.items c.args.agenda.now) k).hypotheses) c.args.entered.now c.loop-item.item-index 0 c.loop-item.left c.args.at 0 c.loop-item-test.true
    (omega (arith, c.hypotheses-hypotheses.ensures, c.if-left-hypotheses.true)) c.loop-item.invariant.rest)

pub loop-item-preserved : goal.loop-item-preserved
loop-item-preserved g c = record {
  within = omega (arith, c.loop-item-test.true);
  rest = found_later (λ k. (added_by (g.A.Agenda.items c.args.agenda.now) k).hypotheses) c.args.entered.now c.loop-item.item-index 0 c.loop-item.left c.args.at c.hypotheses-hypotheses.result c.loop-item-test.true c.hypotheses-hypotheses.ensures
      (omega (arith, c.if-left-hypotheses.false)) c.loop-item.invariant.rest;
}
