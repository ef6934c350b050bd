use Rattle.std.proofs.Common.{take}
use Rattle.plain_judge.specs.Numbered.{ArePlacesOf}
use Rattle.plain_judge.proofs.naming.places_of_flows.Given as goal

abbrev pub invariant-loop-flow : goal.invariant-loop-flow
invariant-loop-flow l = ArePlacesOf l.ids (take l.flow-index l.flows) l.places
