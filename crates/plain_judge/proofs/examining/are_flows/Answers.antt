use Rattle.std.proofs.Common.{◌<◌, ◌∙◌, All, List, ℕ, length, arith, subst}
use Rattle.std.proofs.lemmas.List.{take_all}
use Rattle.plain_rows.proofs.Distinct.{all_more}
use Rattle.plain_model.specs.Plain.{IsPlainFlow}
use Rattle.plain_judge.proofs.examining.are_flows.Goals as goal

pub loop-number-preserved : goal.loop-number-preserved
loop-number-preserved c =
    let flows = c.args.flows.now.flows in
    let over = c.flow-flow.result in
    let within : c.loop-number.number < length flows = omega (arith, c.count-number-end.ensures, c.loop-number-test.true) in (
      c.is_flow.ensures.long ∙ c.loop-number.invariant.0,
      all_more (IsPlainFlow c.args.flows.now.ids) flows c.loop-number.number over.flow within (c.flow-flow.ensures.flow over.flow) c.loop-number.invariant.1
          (subst (λ (ids : List (List ℕ)). IsPlainFlow ids over.flow) c.flow-flow.ensures.ids c.if-not-is_flow.ensures.plain),
    )

pub returns : goal.returns
returns c =
    subst (All (IsPlainFlow c.args.flows.now.ids)) (take_all c.loop-number.number c.args.flows.now.flows (omega (arith, c.count-number-end.ensures, c.loop-number-test.false))) c.loop-number.invariant.1
