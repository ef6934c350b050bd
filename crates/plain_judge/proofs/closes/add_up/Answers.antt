use Rattle.std.proofs.Common.{◌≡◌, ◌+◌, ◌<◌, ◌≤◌, ◌^◌, List, ◌*ℤ◌, length, map, refl, take, get_or, rules, subst, FitsSigned, w64}
use mir.Facts.{to_z-of_z}
use mir.Syntax.{w128}
use Rattle.wide_sums.specs.Total.{with_term}
use Rattle.plain_model.specs.Forms.{slack_of, multiplier_of}
use Rattle.plain_model.specs.declared.certificates.Flow.{Flow}
use Rattle.plain_judge.specs.Closing.{AddsSlack, IsSlackWide}
use Rattle.plain_judge.proofs.Residues.{added_more, taken_parts, wide_constant, wide_multiple}
use Rattle.plain_judge.proofs.closes.add_up.Goals as goal

pub add_slack-requires-clause-in_range : goal.add_slack-requires-clause-in_range
add_slack-requires-clause-in_range c = λ place within. (c.loop-multiplier.invariant.0.residuals place within).1

pub returns-in-Err-clause-wide : goal.returns-in-Err-clause-wide
returns-in-Err-clause-wide c = λ wide.
    let within : c.loop-multiplier.multiplier-index < length c.args.certificate.now.close = search rules in
    let item : get_or c.args.certificate.now.close c.loop-multiplier.multiplier-index c.multiplier-item.result ≡ c.multiplier-item.result = search rules in
    wide_multiple c.args.net.now c.args.property.now.property c.args.certificate.now c.args.flows.now.ids c.loop-multiplier.multiplier-index c.multiplier-item.result c.loop-multiplier.sums
    within item c.requires.places c.loop-multiplier.invariant.0.residuals
    (subst (λ (fs : List Flow). IsSlackWide c.args.flows.now.ids (multiplier_of c.multiplier-item.result) (slack_of c.args.net.now c.args.property.now.property fs c.multiplier-item.result) c.loop-multiplier.sums) c.requires.flows (c.in-Err.ensures.wide wide))

pub returns-in-Err-add_multiple-clause-wide : goal.returns-in-Err-add_multiple-clause-wide
returns-in-Err-add_multiple-clause-wide c = λ same.
    let within : c.loop-multiplier.multiplier-index < length c.args.certificate.now.close = search rules in
    let item : get_or c.args.certificate.now.close c.loop-multiplier.multiplier-index c.multiplier-item.result ≡ c.multiplier-item.result = search rules in
    let fits : FitsSigned w64 c.value_of.result = search rules in
    let large : FitsSigned w128 c.in-Ok.constant = search rules in
    let wide = simp to_z-of_z at c.in-Err-add_multiple.ensures.wide in
    let adds = subst (λ (fs : List Flow). AddsSlack c.args.flows.now.ids (multiplier_of c.multiplier-item.result) (slack_of c.args.net.now c.args.property.now.property fs c.multiplier-item.result) c.loop-multiplier.sums c.add_slack.new.sums c.in-Ok.constant) c.requires.flows c.in-Ok.ensures.adds in
    wide_constant c.args.net.now c.args.property.now.property c.args.certificate.now c.loop-multiplier.multiplier-index c.multiplier-item.result c.loop-multiplier.total c.in-Ok.constant
    within item c.loop-multiplier.invariant.0.constant adds.constant (subst (λ z. 2 ^ 127 ≤ (with_term c.loop-multiplier.total (z *ℤ c.in-Ok.constant)).size) c.value_of.ensures wide)

pub loop-multiplier-preserved : goal.loop-multiplier-preserved
loop-multiplier-preserved c =
    let within : c.loop-multiplier.multiplier-index < length c.args.certificate.now.close = search rules in
    let item : get_or c.args.certificate.now.close c.loop-multiplier.multiplier-index c.multiplier-item.result ≡ c.multiplier-item.result = search rules in
    let fits : FitsSigned w64 c.value_of.result = search rules in
    let large : FitsSigned w128 c.in-Ok.constant = search rules in
    let added = simp to_z-of_z at c.in-Ok-add_multiple.ensures.added in
    let adds = subst (λ (fs : List Flow). AddsSlack c.args.flows.now.ids (multiplier_of c.multiplier-item.result) (slack_of c.args.net.now c.args.property.now.property fs c.multiplier-item.result) c.loop-multiplier.sums c.add_slack.new.sums c.in-Ok.constant) c.requires.flows c.in-Ok.ensures.adds in (
      added_more c.args.net.now c.args.property.now.property c.args.certificate.now c.args.flows.now.ids (take c.loop-multiplier.multiplier-index c.args.certificate.now.close) (take (c.loop-multiplier.multiplier-index + 1) c.args.certificate.now.close)
          c.multiplier-item.result c.loop-multiplier.sums c.add_slack.new.sums c.loop-multiplier.total c.add_multiple.new.sum (map (slack_of c.args.net.now c.args.property.now.property c.args.certificate.now.flows c.multiplier-item.result).coefficient c.args.flows.now.ids) c.in-Ok.constant
          c.loop-multiplier.invariant.0
          (taken_parts c.args.net.now c.args.property.now.property c.args.certificate.now c.args.certificate.now.close c.loop-multiplier.multiplier-index c.multiplier-item.result within item)
          refl adds.constant adds.constant_fits adds.added adds.sums_fit
          (subst (λ z. c.add_multiple.new.sum ≡ with_term c.loop-multiplier.total (z *ℤ c.in-Ok.constant)) c.value_of.ensures added),
      c.in-Ok.ensures.zeros,
    )
