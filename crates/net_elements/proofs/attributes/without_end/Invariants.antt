use Rattle.std.proofs.Common.{◌≡◌, ◌≤◌, length, reverse, take}
use Rattle.net_elements.specs.Rules.{without_front}
use Rattle.net_elements.proofs.attributes.without_end.Given as goal

abbrev pub invariant-loop-length : goal.invariant-loop-length
invariant-loop-length l = (l.length ≤ length l.text) × (without_front (reverse (take l.length l.text)) ≡ without_front (reverse l.text))

abbrev pub decreases-loop-length : goal.decreases-loop-length
decreases-loop-length l = l.length
