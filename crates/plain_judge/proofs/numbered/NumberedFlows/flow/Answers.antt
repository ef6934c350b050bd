use Rattle.std.proofs.Common.{◌≡◌, ◌<◌, ◌∙◌, List, ℕ, length, get_or, ap, sym, subst}
use Rattle.plain_judge.specs.Numbered.{FlowsOver, IsNumbered}
use Rattle.plain_model.specs.declared.certificates.Flow.{Flow}
use Rattle.plain_judge.proofs.PlaceNumbers.{numbered_flow}
use Rattle.plain_judge.proofs.numbered.NumberedFlows.flow.Goals as goal

pub new-requires : goal.new-requires
new-requires c =
    let numbers : c.as_slice-2.result.now ≡ get_or c.self.inside.places c.args.number c.as_slice-2.result.now =
    rw c.as_slice-2.ensures (c.index-as_slice-number.is ∙ ap (λ (all : List (List ℕ)). get_or all c.args.number c.index-as_slice-number.result) c.as_slice.ensures) in
    subst (λ (flow : Flow). IsNumbered c.self.inside.ids.now flow c.as_slice-2.result.now) c.index-self-number.is
    (numbered_flow c.self.inside.ids.now c.self.inside.names c.self.inside.flows.now c.self.inside.places c.args.number c.index-self-number.result c.as_slice-2.result.now
    c.self.invariant (subst (λ (over : FlowsOver). c.args.number < length over.flows) (sym c.self.view_is) c.requires) c.index-self-number.is numbers)
