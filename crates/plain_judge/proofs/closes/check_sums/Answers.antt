use Rattle.std.proofs.Common.{◌≡◌, length, rules, arith, ap, sym, ◌∙◌, FitsSigned, cond, Err}
use Rattle.std.proofs.lemmas.List.{length-replicate}
use Rattle.wide_sums.specs.Total.{zero_total}
use mir.Facts.{to_z-of_z}
use mir.Syntax.{w128}
use Rattle.plain_model.specs.declared.verdicts.Check.TheVariants as check
use Rattle.plain_model.specs.Obligations.{parts, is_refuted}
use Rattle.plain_judge.proofs.Residues.{judged_by_residual}
use Rattle.plain_judge.proofs.closes.check_sums.Goals as goal

pub returns-in-Ok : goal.returns-in-Ok
returns-in-Ok c =
    let large : FitsSigned w128 c.in-Ok.constant = search rules in
    let long : length c.add_up.new.sums ≡ length c.args.flows.now.ids = (let l = ap length c.requires.empty ∙ length-replicate (length c.args.flows.now.ids) zero_total in omega (arith, l)) in
    (simp to_z-of_z at c.refutes.ensures)
    ∙ judged_by_residual c.args.net.now c.args.property.now.property c.args.certificate.now c.args.flows.now.ids c.add_up.new.sums c.in-Ok.constant c.requires.places long
    c.in-Ok.ensures.sums c.in-Ok.ensures.fits c.in-Ok.ensures.value

pub returns-in-Err-Wide : goal.returns-in-Err-Wide
returns-in-Err-Wide c = sym (ap (λ b. cond b check.Wide (cond (is_refuted c.args.net.now (parts c.args.net.now c.args.property.now.property c.args.certificate.now)) check.True check.False)) (c.in-Err-Wide.ensures.wide (ap Err c.in-Err-Wide.field-0-is)))
