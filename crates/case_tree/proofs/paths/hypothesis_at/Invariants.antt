use Rattle.std.proofs.Common.{◌≡◌, ◌≤◌, length, drop}
use Rattle.cert_model.specs.Facts.{element}
use Rattle.case_tree.specs.States.{hypotheses_in}
use Rattle.case_tree.proofs.paths.hypothesis_at.Given as goal

abbrev pub invariant-loop-item : goal.invariant-loop-item
invariant-loop-item g l = record {
  within : l.item-index ≤ length l.entered;
  rest : element (hypotheses_in (g.A.Agenda.items l.agenda) (drop l.item-index l.entered)) l.left ≡ element (hypotheses_in (g.A.Agenda.items l.agenda) l.entered) l.at;
}
