use Rattle.std.proofs.Common.{All, take, pos, ◌*ℤ◌}
use Rattle.std.specs.Prelude.{Contains}
use Rattle.plain_model.specs.Forms.{times_in}
use Rattle.plain_judge.specs.Coefficients.{Raises}
use Rattle.plain_judge.proofs.spreads.add_listed.Given as goal

abbrev pub invariant-loop-name : goal.invariant-loop-name
invariant-loop-name l =
    Raises l.ids (λ id. l.value *ℤ pos (times_in (take l.name-index l.listed) id)) l.fn.coefficients l.coefficients
    × All (Contains l.ids) (take l.name-index l.listed)
