use Rattle.std.proofs.Common.{◌≡◌, ◌+◌, ◌<◌, length, get_or, take, ◌++◌, ◌∷◌, [], sym, ap, subst, ◌∙◌, rules, FitsSigned, w64, arith}
use mir.Facts.{to_z-of_z}
use Rattle.std.proofs.lemmas.List.{take_more}
use Rattle.name_tables.specs.Numbering.{number_in}
use Rattle.plain_model.specs.Forms.{weight_on}
use Rattle.plain_model.specs.declared.certificates.Weight.{Weight}
use Rattle.plain_judge.specs.Coefficients.{raised}
use Rattle.plain_judge.proofs.PlaceNumbers.{number_at}
use Rattle.plain_judge.proofs.RaisedPlaces.{Raises-raised, weight_on-push}
use Rattle.plain_judge.proofs.spreads.add_weights.Goals as goal

pub loop-at-preserved : goal.loop-at-preserved
loop-at-preserved c =
    let ids = c.args.flow.now.ids in
    let weights = c.args.flow.now.flow.weights in
    let places = c.places-places.result.now in
    let at = c.loop-at.at in
    let weight = c.index-weights-at.result in
    let item : weight ≡ get_or weights at weight = c.index-weights-at.is ∙ ap (λ ws. get_or ws at weight) c.weights-weights.ensures in
    let within : at < length weights = omega (arith, ap length c.weights-weights.ensures, c.loop-at-test.true) in
    let place = get_or places at 0 in
    let fits : FitsSigned w64 (get_or c.weights-weights.result.now at weight).value = search rules in
    let raised_raw = simp to_z-of_z at c.in_ok-raise.ensures in
    let is = subst (λ (w : Weight). c.raise.new.coefficients ≡ raised c.loop-at.coefficients place w.value) (sym c.index-weights-at.is) raised_raw in
    let found = ap (λ (w : Weight). number_in ids w.place) item ∙ number_at ids weights places at weight 0 c.places-places.ensures.numbers within in
    Raises-raised ids (weight_on (take at weights)) (weight_on (take (at + 1) weights))
    c.args.coefficients.now c.loop-at.coefficients c.raise.new.coefficients place weight.place weight.value
    c.places-places.ensures.distinct found (omega (arith, c.requires, c.loop-at.auto.coefficients)) is
    (λ id. ap (λ ws. weight_on ws id) (take_more weights at weight within ∙ ap (λ w. take at weights ++ w ∷ []) (sym item))
    ∙ weight_on-push (take at weights) weight id)
    c.loop-at.invariant
