use Rattle.case_tree.proofs.paths.CasePath.rounds.Goals as goal
use Rattle.case_tree.proofs.Branching.{kind_sized}

pub returns-in-Each-clause-sized : goal.returns-in-Each-clause-sized
returns-in-Each-clause-sized g c = kind_sized c.args.self.now.path c.args.node.now.kind
