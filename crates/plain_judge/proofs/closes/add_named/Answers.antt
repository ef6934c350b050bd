use Rattle.std.proofs.Common.{◌≡◌, map, rules, ap, subst, sym, ◌∙◌, Some, IfOk, List, ℕ, FitsSigned, w64}
use mir.Facts.{to_z-of_z}
use Rattle.name_tables.specs.Numbering.{number_in}
use Rattle.plain_model.specs.declared.certificates.Flow.{Flow}
use Rattle.plain_model.specs.Forms.{Form, flow_slack, flow_slack_of}
use Rattle.plain_judge.specs.Closing.{AddsSlack, IsSlackWide}
use Rattle.plain_judge.proofs.Slacks.{flow_slack_of-is}
use Rattle.plain_judge.proofs.closes.add_named.Goals as goal

pub returns-in-Some-clause-adds : goal.returns-in-Some-clause-adds
returns-in-Some-clause-adds c =
    let flow = c.flow-flow.result.flow in
    let found : number_in (map (λ (f : Flow). f.name) c.args.flows.now.flows) c.args.name.now ≡ Some c.in-Some.number = search rules in
    let same : flow_slack_of c.args.net.now c.args.flows.now.flows c.args.name.now ≡ flow_slack c.args.net.now flow =
    flow_slack_of-is c.args.net.now c.args.flows.now.flows c.args.name.now c.in-Some.number flow found ∙ ap (flow_slack c.args.net.now) (sym (c.flow-flow.ensures.flow flow)) in
    let own : FitsSigned w64 c.args.multiplier = search rules in
    let adds = simp to_z-of_z at c.add_flow.ensures.adds in
    subst (λ (form : Form). IfOk c.add_flow.result (AddsSlack c.args.flows.now.ids c.args.multiplier form c.args.sums.now c.add_flow.new.sums)) (sym same)
    (subst (λ (ids : List (List ℕ)). IfOk c.add_flow.result (AddsSlack ids c.args.multiplier (flow_slack c.args.net.now flow) c.args.sums.now c.add_flow.new.sums)) c.flow-flow.ensures.ids adds)

pub returns-in-Some-clause-wide : goal.returns-in-Some-clause-wide
returns-in-Some-clause-wide c = λ wide.
    let flow = c.flow-flow.result.flow in
    let found : number_in (map (λ (f : Flow). f.name) c.args.flows.now.flows) c.args.name.now ≡ Some c.in-Some.number = search rules in
    let same : flow_slack_of c.args.net.now c.args.flows.now.flows c.args.name.now ≡ flow_slack c.args.net.now flow =
    flow_slack_of-is c.args.net.now c.args.flows.now.flows c.args.name.now c.in-Some.number flow found ∙ ap (flow_slack c.args.net.now) (sym (c.flow-flow.ensures.flow flow)) in
    let own : FitsSigned w64 c.args.multiplier = search rules in
    let large = simp to_z-of_z at (c.add_flow.ensures.wide wide) in
    subst (λ (form : Form). IsSlackWide c.args.flows.now.ids c.args.multiplier form c.args.sums.now) (sym same)
    (subst (λ (ids : List (List ℕ)). IsSlackWide ids c.args.multiplier (flow_slack c.args.net.now flow) c.args.sums.now) c.flow-flow.ensures.ids large)
