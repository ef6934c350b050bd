use Rattle.std.proofs.Common.{◌≡◌, List, ℤ, pos, ◌*ℤ◌, length, ap, arith, subst}
use Rattle.std.proofs.lemmas.List.{length-replicate}
use Rattle.plain_model.specs.Forms.{times_listed}
use Rattle.plain_judge.specs.Coefficients.{Raises}
use Rattle.plain_judge.proofs.RaisedPlaces.{Raises-difference}
use Rattle.plain_judge.proofs.spreads.spread_hypothesis.Goals as goal

pub returns-clause-spread : goal.returns-clause-spread
returns-clause-spread c =
    let ids = c.args.ids.now in
    let long : length c.add_count-2.new.coefficients ≡ length ids =
    omega (arith, ap length c.requires.zeros, length-replicate (length ids) (pos 0), c.add_count.auto.coefficients, c.add_count-2.auto.coefficients) in
    Raises-difference ids (times_listed c.args.property.now.left) (times_listed c.args.property.now.right) (length ids) c.add_count.new.coefficients c.add_count-2.new.coefficients long
    (subst (λ (xs : List ℤ). Raises ids (λ id. pos 1 *ℤ pos (times_listed c.args.property.now.left id)) xs c.add_count.new.coefficients) c.requires.zeros c.in_ok-add_count.ensures.raised)
    c.in_ok-add_count-2.ensures.raised
