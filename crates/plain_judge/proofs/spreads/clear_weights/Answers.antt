use Rattle.std.proofs.Common.{◌≡◌, ◌<◌, length, get_or, arith, ap, refl}
use Rattle.std.proofs.lemmas.List.{length-map}
use Rattle.plain_model.specs.Forms.{weight_on}
use Rattle.plain_judge.proofs.FirstFailing.{all_cleared, cleared_more}
use Rattle.plain_judge.proofs.PlaceNumbers.{number_at, weight_at, weight_at-is}
use Rattle.plain_judge.proofs.spreads.clear_weights.Goals as goal

pub loop-at-preserved : goal.loop-at-preserved
loop-at-preserved c =
    let ids = c.args.flow.now.ids in
    let weights = c.args.flow.now.flow.weights in
    let places = c.places-places.result.now in
    let at = c.loop-at.at in
    let long : length c.loop-at.coefficients ≡ length ids = omega (arith, ap length c.requires, length-map ids (weight_on weights), c.loop-at.auto.coefficients) in
    let within : at < length weights = omega (arith, c.places-places.ensures.long, c.loop-at-test.true) in
    cleared_more ids weights at (weight_at weights at) c.loop-at.coefficients _ (get_or places at 0)
    c.places-places.ensures.distinct within (weight_at-is weights at within) (number_at ids weights places at _ 0 c.places-places.ensures.numbers within) long refl c.loop-at.invariant

pub returns : goal.returns
returns c =
    let ids = c.args.flow.now.ids in
    let weights = c.args.flow.now.flow.weights in
    let long : length c.loop-at.coefficients ≡ length ids = omega (arith, ap length c.requires, length-map ids (weight_on weights), c.loop-at.auto.coefficients) in
    let all : c.loop-at.at ≡ length weights = omega (arith, c.places-places.ensures.long, c.loop-at-test.false, c.loop-at.auto.at-end) in
    all_cleared ids weights c.loop-at.at c.loop-at.coefficients long all c.loop-at.invariant
