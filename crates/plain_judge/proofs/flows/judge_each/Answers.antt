use Rattle.std.proofs.Common.{◌≡◌, ◌<◌, ◌∙◌, length, map, get_or, refl, List, ℕ, pos, replicate, arith, sym, ap, subst, ◌+◌, drop}
use Rattle.plain_model.specs.Forms.{weight_on}
use Rattle.plain_model.specs.declared.certificates.Flow.{Flow}
use Rattle.plain_judge.specs.Judging.{flows_judged, judged_rows, row_checks}
use Rattle.plain_judge.proofs.Order.{flows_decided, flows_from, or_else}
use Rattle.plain_judge.proofs.flows.judge_each.Goals as goal

pub returns-in-Ok-NotShown : goal.returns-in-Ok-NotShown
returns-in-Ok-NotShown c =
    let flows = c.args.flows.now.flows in
    let number = c.loop-number.number in
    let over = c.flow-flow.result in
    let within : number < length flows = omega (arith, c.count-number-end.ensures, c.loop-number-test.true) in
    let item = c.flow-flow.ensures.flow over.flow in
    let judged =
    c.in-Ok-NotShown.ensures.judged
    ∙ ap (λ (ids : List (List ℕ)). judged_rows number 0 (row_checks (map (weight_on over.flow.weights) ids) c.args.system.now.instances)) c.flow-flow.ensures.ids
    ∙ ap (λ (f : Flow). judged_rows number 0 (row_checks (map (weight_on f.weights) c.args.flows.now.ids) c.args.system.now.instances)) item in
    let whole =
    flows_decided c.args.net.now c.args.system.now c.args.flows.now.ids flows number over.flow (map (weight_on (get_or flows number over.flow).weights) c.args.flows.now.ids)
    c.in-Ok-NotShown.field-0 (flows_judged c.args.net.now flows) within c.requires.rows c.requires.places refl judged c.loop-number.invariant.0
    ∙ ap (λ j. or_else j (flows_from c.args.net.now (number + 1) (drop (number + 1) flows))) c.in-Ok-NotShown.field-0-is in
    sym whole

pub returns-in-Ok-Range : goal.returns-in-Ok-Range
returns-in-Ok-Range c =
    let flows = c.args.flows.now.flows in
    let number = c.loop-number.number in
    let over = c.flow-flow.result in
    let within : number < length flows = omega (arith, c.count-number-end.ensures, c.loop-number-test.true) in
    let item = c.flow-flow.ensures.flow over.flow in
    let judged =
    c.in-Ok-Range.ensures.judged
    ∙ ap (λ (ids : List (List ℕ)). judged_rows number 0 (row_checks (map (weight_on over.flow.weights) ids) c.args.system.now.instances)) c.flow-flow.ensures.ids
    ∙ ap (λ (f : Flow). judged_rows number 0 (row_checks (map (weight_on f.weights) c.args.flows.now.ids) c.args.system.now.instances)) item in
    let whole =
    flows_decided c.args.net.now c.args.system.now c.args.flows.now.ids flows number over.flow (map (weight_on (get_or flows number over.flow).weights) c.args.flows.now.ids)
    c.in-Ok-Range.field-0 (flows_judged c.args.net.now flows) within c.requires.rows c.requires.places refl judged c.loop-number.invariant.0
    ∙ ap (λ j. or_else j (flows_from c.args.net.now (number + 1) (drop (number + 1) flows))) c.in-Ok-Range.field-0-is in
    sym whole

pub loop-number-preserved : goal.loop-number-preserved
loop-number-preserved c =
    let flows = c.args.flows.now.flows in
    let number = c.loop-number.number in
    let over = c.flow-flow.result in
    let within : number < length flows = omega (arith, c.count-number-end.ensures, c.loop-number-test.true) in
    let item = c.flow-flow.ensures.flow over.flow in
    let judged =
    c.in-Ok-Shown.ensures.judged
    ∙ ap (λ (ids : List (List ℕ)). judged_rows number 0 (row_checks (map (weight_on over.flow.weights) ids) c.args.system.now.instances)) c.flow-flow.ensures.ids
    ∙ ap (λ (f : Flow). judged_rows number 0 (row_checks (map (weight_on f.weights) c.args.flows.now.ids) c.args.system.now.instances)) item in
    let whole =
    flows_decided c.args.net.now c.args.system.now c.args.flows.now.ids flows number over.flow (map (weight_on (get_or flows number over.flow).weights) c.args.flows.now.ids)
    c.in-Ok-Shown.field-0 (flows_judged c.args.net.now flows) within c.requires.rows c.requires.places refl judged c.loop-number.invariant.0
    ∙ ap (λ j. or_else j (flows_from c.args.net.now (number + 1) (drop (number + 1) flows))) c.in-Ok-Shown.field-0-is in
    (whole, subst (λ (ids : List (List ℕ)). c.judge_flow.new.coefficients ≡ replicate (length ids) (pos 0)) c.flow-flow.ensures.ids c.in-Ok-Shown.ensures.zeros, c.in-Ok-Shown.ensures.low)
