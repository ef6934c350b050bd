use Rattle.std.proofs.Common.{◌≡◌, map, take, true}
use Rattle.std.specs.List.{list_all}
use Rattle.colour_sorts.specs.Knowing.{is_declared}
use Rattle.colour_sorts.specs.Naming.{names_pass}
use Rattle.colour_sorts.proofs.knowing.+knowing.Given as goal

abbrev pub invariant-parts_declared-loop-part : goal.invariant-parts_declared-loop-part
invariant-parts_declared-loop-part l = list_all (λ b. b) (map (names_pass (is_declared l.ids)) (take l.part-index l.parts)) ≡ true
