use Rattle.std.proofs.Common.{◌≡◌, List, ℤ, pos, length, arith, ap, subst}
use Rattle.std.proofs.lemmas.List.{length-replicate}
use Rattle.plain_model.specs.Forms.{weight_on}
use Rattle.plain_judge.specs.Coefficients.{Raises}
use Rattle.plain_judge.proofs.RaisedPlaces.{Raises-from_zeros}
use Rattle.plain_judge.proofs.spreads.spread_on_zeros.Goals as goal

pub returns : goal.returns
returns c =
    let ids = c.args.flow.now.ids in
    let weights = c.args.flow.now.flow.weights in
    let long : length c.add_weights.new.coefficients ≡ length ids =
    omega (arith, ap length c.requires, length-replicate (length ids) (pos 0), c.add_weights.auto.coefficients) in
    Raises-from_zeros ids (weight_on weights) (length ids) c.add_weights.new.coefficients long
    (subst (λ (xs : List ℤ). Raises ids (weight_on weights) xs c.add_weights.new.coefficients) c.requires c.in_ok-add_weights.ensures)
