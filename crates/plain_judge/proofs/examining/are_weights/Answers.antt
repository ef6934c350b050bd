use Rattle.std.proofs.Common.{◌≡◌, ◌<◌, ◌^◌, ◌++◌, ◌∷◌, [], map, take, get_or, length, All, List, sym, subst, ap, ◌∙◌, arith, rules}
use Rattle.std.specs.Prelude.{slice_set, unsigned_abs}
use Rattle.std.proofs.lemmas.List.{take_all, map_more, length-set}
use Rattle.name_tables.specs.Numbering.{number_in}
use Rattle.plain_rows.proofs.Distinct.{all_more}
use Rattle.plain_model.specs.declared.certificates.Weight.{Weight}
use Rattle.plain_model.specs.Plain.{AreDistinct, IsPlainWeight}
use Rattle.plain_judge.specs.Examining.{IsMarked}
use Rattle.plain_judge.proofs.MetNames.{contained, distinct_more, marked_more, numbered_within}
use Rattle.plain_judge.proofs.PlaceNumbers.{number_at}
use Rattle.plain_judge.proofs.examining.are_weights.Goals as goal

pub loop-at-preserved : goal.loop-at-preserved
loop-at-preserved c =
    let ids = c.args.flow.now.ids in
    let weights = c.args.flow.now.flow.weights in
    let places = c.places-places.result.now in
    let marks = c.loop-at.marks in
    let i = c.loop-at.at in
    let weight = c.index-weights-at.result in
    let place = get_or places i 0 in
    let met = map (λ (w : Weight). w.place) (take i weights) in
    let item : weight ≡ get_or weights i weight = c.index-weights-at.is ∙ ap (λ ws. get_or ws i weight) c.weights-weights.ensures in
    let there : i < length weights = omega (arith, ap length c.weights-weights.ensures, c.loop-at-test.true) in
    let found = ap (λ (w : Weight). number_in ids w.place) item ∙ number_at ids weights places i weight 0 c.places-places.ensures.numbers there in
    let range : unsigned_abs weight.value < 2 ^ 63 = search rules in
    let here = contained ids weight.place place found in
    let inside : place < length marks = omega (arith, numbered_within ids weight.place place found, c.loop-at.invariant.0) in
    let more = map_more (λ (w : Weight). w.place) weights i weight there ∙ ap (λ (w : Weight). met ++ w.place ∷ []) (sym item) in (
      length-set marks place c.args.mark ∙ c.loop-at.invariant.0,
      all_more (IsPlainWeight ids) weights i weight there item c.loop-at.invariant.1 (range, here),
      subst AreDistinct (sym more) (distinct_more ids marks c.args.mark place met weight.place found c.if-marks-place.false c.loop-at.invariant.3 c.loop-at.invariant.2),
      subst (All (IsMarked ids (slice_set marks place c.args.mark) c.args.mark)) (sym more) (marked_more ids marks c.args.mark place met weight.place inside found c.loop-at.invariant.3),
    )

pub returns-clause-plain : goal.returns-clause-plain
returns-clause-plain c =
    subst (All (IsPlainWeight c.args.flow.now.ids)) (take_all c.loop-at.at c.args.flow.now.flow.weights (omega (arith, ap length c.weights-weights.ensures, c.loop-at-test.false))) c.loop-at.invariant.1

pub returns-clause-once : goal.returns-clause-once
returns-clause-once c =
    subst (λ (ws : List Weight). AreDistinct (map (λ (w : Weight). w.place) ws))
    (take_all c.loop-at.at c.args.flow.now.flow.weights (omega (arith, ap length c.weights-weights.ensures, c.loop-at-test.false))) c.loop-at.invariant.2
