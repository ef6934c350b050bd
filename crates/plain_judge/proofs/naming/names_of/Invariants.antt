use Rattle.std.proofs.Common.{◌≡◌, map, take}
use Rattle.plain_model.specs.declared.certificates.Flow.{Flow}
use Rattle.plain_model.specs.Plain.{AreDistinct}
use Rattle.plain_judge.proofs.naming.names_of.Given as goal

abbrev pub invariant-loop-flow : goal.invariant-loop-flow
invariant-loop-flow l = (l.names ≡ map (λ (flow : Flow). flow.name) (take l.flow-index l.flows)) × AreDistinct l.names
