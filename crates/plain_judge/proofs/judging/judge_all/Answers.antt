use Rattle.std.proofs.Common.{◌∙◌, ap, sym}
use Rattle.plain_model.specs.declared.verdicts.Spot.TheVariants.{Close}
use Rattle.plain_model.specs.declared.verdicts.Judged.TheVariants.{Shown}
use Rattle.plain_model.specs.Obligations.{close_check}
use Rattle.plain_judge.specs.Judging.{flows_judged, then_judged}
use Rattle.plain_judge.proofs.Order.{or_else, judgement_after}
use Rattle.plain_judge.proofs.judging.judge_all.Goals as goal

pub returns-in-Ok-NotShown : goal.returns-in-Ok-NotShown
returns-in-Ok-NotShown c =
    sym (judgement_after c.args.net.now c.args.property.now.property c.args.certificate.now c.in-Ok-NotShown.field-0 (c.in-Ok-NotShown.ensures ∙ ap (flows_judged c.args.net.now) c.requires.flows)
    ∙ ap (λ j. or_else j (then_judged Close (close_check c.args.net.now c.args.property.now.property c.args.certificate.now) Shown)) c.in-Ok-NotShown.field-0-is)

pub returns-in-Ok-Range : goal.returns-in-Ok-Range
returns-in-Ok-Range c =
    sym (judgement_after c.args.net.now c.args.property.now.property c.args.certificate.now c.in-Ok-Range.field-0 (c.in-Ok-Range.ensures ∙ ap (flows_judged c.args.net.now) c.requires.flows)
    ∙ ap (λ j. or_else j (then_judged Close (close_check c.args.net.now c.args.property.now.property c.args.certificate.now) Shown)) c.in-Ok-Range.field-0-is)

pub returns-in-Ok-True : goal.returns-in-Ok-True
returns-in-Ok-True c =
    sym (judgement_after c.args.net.now c.args.property.now.property c.args.certificate.now c.in-Ok-Shown.field-0 (c.in-Ok-Shown.ensures ∙ ap (flows_judged c.args.net.now) c.requires.flows)
    ∙ ap (λ j. or_else j (then_judged Close (close_check c.args.net.now c.args.property.now.property c.args.certificate.now) Shown)) c.in-Ok-Shown.field-0-is
    ∙ ap (λ k. then_judged Close k Shown) (sym c.in-Ok-True.ensures ∙ c.in-Ok-True.field-0-is))

pub returns-in-Ok-False : goal.returns-in-Ok-False
returns-in-Ok-False c =
    sym (judgement_after c.args.net.now c.args.property.now.property c.args.certificate.now c.in-Ok-Shown.field-0 (c.in-Ok-Shown.ensures ∙ ap (flows_judged c.args.net.now) c.requires.flows)
    ∙ ap (λ j. or_else j (then_judged Close (close_check c.args.net.now c.args.property.now.property c.args.certificate.now) Shown)) c.in-Ok-Shown.field-0-is
    ∙ ap (λ k. then_judged Close k Shown) (sym c.in-Ok-False.ensures ∙ c.in-Ok-False.field-0-is))

pub returns-in-Ok-Wide : goal.returns-in-Ok-Wide
returns-in-Ok-Wide c =
    sym (judgement_after c.args.net.now c.args.property.now.property c.args.certificate.now c.in-Ok-Shown.field-0 (c.in-Ok-Shown.ensures ∙ ap (flows_judged c.args.net.now) c.requires.flows)
    ∙ ap (λ j. or_else j (then_judged Close (close_check c.args.net.now c.args.property.now.property c.args.certificate.now) Shown)) c.in-Ok-Shown.field-0-is
    ∙ ap (λ k. then_judged Close k Shown) (sym c.in-Ok-Wide.ensures ∙ c.in-Ok-Wide.field-0-is))
