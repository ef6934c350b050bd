use Rattle.net_typing.specs.TypedArcs.{IsTypedSoFar}
use Rattle.net_typing.proofs.arcs.gather.Given as goal

abbrev pub ghost-typed_arc : goal.ghost-typed_arc
ghost-typed_arc g a = g.net

abbrev pub invariant-loop-arc : goal.invariant-loop-arc
invariant-loop-arc g l = IsTypedSoFar g.net l.arcs l.arc-index l.typed.items
