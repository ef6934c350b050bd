use Rattle.std.proofs.Common.{codes, true, false, sym, ◌∙◌}
use Rattle.mcc_model.specs.Files.{has_name}
use Rattle.mcc_formula.proofs.Popped.{keeps}
use Rattle.mcc_formula.proofs.reading.formula_among.Goals as goal

pub loop-child-preserved-then-has_name : goal.loop-child-preserved-then-has_name
loop-child-preserved-then-has_name c =
    keeps (has_name (codes "formula")) c.loop-child.left c.pop.new.self c.in-Some.child c.loop-child.found _ true c.in-Some.ensures
    (sym c.has_name.ensures ∙ c.if-has_name.true) c.loop-child.invariant

pub loop-child-preserved-else-has_name : goal.loop-child-preserved-else-has_name
loop-child-preserved-else-has_name c =
    keeps (has_name (codes "formula")) c.loop-child.left c.pop.new.self c.in-Some.child c.loop-child.found _ false c.in-Some.ensures
    (sym c.has_name.ensures ∙ c.if-has_name.false) c.loop-child.invariant

pub loop-child-preserved : goal.loop-child-preserved
loop-child-preserved c =
    keeps (has_name (codes "formula")) c.loop-child.left c.pop.new.self c.in-Some.child c.loop-child.found _ false c.in-Some.ensures
    (sym c.has_name.ensures ∙ c.if-has_name.false) c.loop-child.invariant
