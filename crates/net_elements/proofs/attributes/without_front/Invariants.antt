use Rattle.std.proofs.Common.{◌≡◌, drop}
use Rattle.net_elements.specs.Rules.{without_front}
use Rattle.net_elements.proofs.attributes.without_front.Given as goal

abbrev pub invariant-loop-at : goal.invariant-loop-at
invariant-loop-at l = without_front (drop l.at l.text) ≡ without_front l.text
