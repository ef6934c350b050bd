use Rattle.std.proofs.Common.{◌≡◌, map, take}
use Rattle.net_typing.proofs.scope.ids_of.Given as goal

abbrev pub invariant-loop-variable : goal.invariant-loop-variable
invariant-loop-variable l = l.ids ≡ take l.variable-index (map (λ v. v.id) l.variables)
