use Rattle.std.proofs.Common.{◌≡◌, drop}
use Rattle.net_elements.specs.Rules.{role_named}
use Rattle.net_elements.proofs.seats.role_named.Given as goal

abbrev pub invariant-loop-role : goal.invariant-loop-role
invariant-loop-role l = role_named (drop l.role-index l.roles) l.name ≡ role_named l.roles l.name
