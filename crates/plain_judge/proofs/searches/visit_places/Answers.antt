use Rattle.std.proofs.Common.{◌≡◌, ◌<◌, List, length, get_or, take, arith, ◌∙◌, ap, subst}
use Rattle.std.proofs.Math.Seq.{take-length}
use Rattle.std.proofs.lemmas.List.Elements.{All-contains}
use Rattle.plain_judge.specs.declared.incidences.Incidence.{Incidence}
use Rattle.plain_model.specs.declared.certificates.Weight.{Weight}
use Rattle.plain_judge.specs.Searching.{KeepAtPlaces}
use Rattle.plain_judge.proofs.FirstFailing.{places_more}
use Rattle.plain_judge.proofs.PlaceNumbers.{number_at, weight_at, weight_at-is}
use Rattle.plain_judge.proofs.searches.visit_places.Goals as goal

pub visit_all-least-requires-clause-within : goal.visit_all-least-requires-clause-within
visit_all-least-requires-clause-within c =
    λ k d inside. All-contains (λ (one : Incidence). one.transition < length c.args.system.now.instances) c.args.incidences.now.list.items (get_or c.at_place-here.result.now k d)
    c.requires.index.listed.transitions (c.at_place-here.ensures.only k d inside)

pub loop-at-preserved : goal.loop-at-preserved
loop-at-preserved c =
    let ids = c.args.flow.now.ids in
    let weights = c.args.flow.now.flow.weights in
    let places = c.places-places.result.now in
    let at = c.loop-at.at in
    let within : at < length weights = omega (arith, c.places-places.ensures.long, c.loop-at-test.true) in (
      c.visit_all-least.ensures.low,
      c.visit_all-least.ensures.after,
      places_more ids weights at (weight_at weights at) c.args.incidences.now.list.items c.at_place-here.result.now
          c.args.coefficients.now c.args.system.now (get_or places at 0) c.loop-at.least c.visit_all-least.result
          c.places-places.ensures.distinct within (weight_at-is weights at within) (number_at ids weights places at _ 0 c.places-places.ensures.numbers within)
          c.visit_all-least.ensures.lower c.at_place-here.ensures.all c.visit_all-least.ensures.tested c.loop-at.invariant.2,
    )

pub returns-clause-tested : goal.returns-clause-tested
returns-clause-tested c =
    let weights = c.args.flow.now.flow.weights in
    let all : c.loop-at.at ≡ length weights = omega (arith, c.places-places.ensures.long, c.loop-at-test.false, c.loop-at.auto.at-end) in
    subst (λ (ws : List Weight). KeepAtPlaces c.args.flow.now.ids ws c.args.incidences.now.list.items c.args.coefficients.now c.args.system.now c.loop-at.least)
    (ap (λ n. take n weights) all ∙ take-length weights) c.loop-at.invariant.2
