use Rattle.net_nodes.proofs.Walks.{HasCome}
use Rattle.net_nodes.proofs.walking.walk.Given as goal

abbrev pub invariant-loop-passed : goal.invariant-loop-passed
invariant-loop-passed l = HasCome l.links l.from l.kind l._passed l.at
