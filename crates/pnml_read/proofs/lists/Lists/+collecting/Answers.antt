use Rattle.std.proofs.lemmas.Result.{on_ok_weaker}
use Rattle.pnml_read.proofs.lists.Lists.+collecting.Goals as goal

pub add_as-returns-in-Transition : goal.add_as-returns-in-Transition
add_as-returns-in-Transition t c = rw c.in-Transition.is (on_ok_weaker c.transition.result (λ each. each c.args.kind) c.transition.ensures)

pub add_as-returns-in-NamedSort : goal.add_as-returns-in-NamedSort
add_as-returns-in-NamedSort t c = rw c.in-NamedSort.is (on_ok_weaker c.sort.result (λ each. each c.args.kind) c.sort.ensures)

pub add_as-returns-in-Partition : goal.add_as-returns-in-Partition
add_as-returns-in-Partition t c = rw c.in-Partition.is (on_ok_weaker c.partition.result (λ each. each c.args.kind) c.partition.ensures)

pub add_as-returns-in-VariableDecl : goal.add_as-returns-in-VariableDecl
add_as-returns-in-VariableDecl t c = rw c.in-VariableDecl.is (on_ok_weaker c.variable.result (λ each. each c.args.kind) c.variable.ensures)
