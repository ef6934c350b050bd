use Rattle.std.proofs.Common.{◌<◌, length, All, subst}
use Rattle.plain_judge.specs.Numbered.{FlowOver}
use Rattle.plain_judge.proofs.PlaceNumbers.{are_within}
use Rattle.plain_judge.proofs.numbered.NumberedFlow.places.Goals as goal

pub returns-clause-within : goal.returns-clause-within
returns-clause-within c =
    subst (λ (over : FlowOver). All (λ place. place < length over.ids) c.self.inside.places.now) c.self.view_is
    (are_within c.self.inside.ids.now c.self.inside.flow.now.weights c.self.inside.places.now c.self.invariant.are)
