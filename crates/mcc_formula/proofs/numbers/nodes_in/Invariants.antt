use Rattle.std.proofs.Common.{◌≡◌, ◌++◌, drop, map}
use Rattle.doc_model.specs.declared.tree.Element.{out-Element}
use Rattle.mcc_model.specs.Goals.{node_of}
use Rattle.mcc_formula.proofs.numbers.nodes_in.Given as goal

abbrev pub invariant-loop-child : goal.invariant-loop-child
invariant-loop-child l =
    l.nodes.items ++ map (λ e. node_of l.names (out-Element e).text) (drop l.child-index l.children) ≡ map (λ e. node_of l.names (out-Element e).text) l.children
