use Rattle.std.proofs.Common.{◌≡◌, ◌<◌, ◌^◌, pos, replicate, inl, inr, length, get_or, set, rules, arith, FitsSigned, w64, ap, refl, sym, ◌∙◌, subst}
use mir.Facts.{to_z-of_z}
use Rattle.std.proofs.lemmas.Int.{ints}
use Rattle.std.proofs.lemmas.List.{length-map}
use Rattle.wide_sums.specs.Total.{Total}
use Rattle.plain_model.specs.Forms.{weight_on}
use Rattle.plain_judge.specs.Residuals.{AreInRange, sum_with_part}
use Rattle.plain_judge.proofs.FirstFailing.{all_cleared, cleared_more}
use Rattle.plain_judge.proofs.PlaceNumbers.{number_at, weight_at, weight_at-is}
use Rattle.plain_judge.proofs.Settled.{all_added, all_fit, constant_step, constant_wide_on_the_way, constant_whole_taken, in_range_step, wide_here, will_add_step}
use Rattle.plain_judge.proofs.settling.settle_weights.Goals as goal

pub returns-in-Err-clause-wide : goal.returns-in-Err-clause-wide
returns-in-Err-clause-wide c =
    let place = get_or c.places-numbers.result.now c.loop-at.at 0 in
    let own : FitsSigned w64 c.args.multiplier = search rules in
    let will = simp to_z-of_z at c.loop-at.invariant.1 in
    let ids_long : length c.args.coefficients.now ≡ length c.args.flow.now.ids = ap length c.requires.spread ∙ length-map c.args.flow.now.ids (weight_on c.args.flow.now.flow.weights) in
    let long : length c.loop-at.coefficients ≡ length c.args.coefficients.now = c.loop-at.auto.coefficients in
    let long_sums : length c.loop-at.sums ≡ length c.args.coefficients.now = omega (arith, ids_long, c.requires.sums, c.loop-at.auto.sums) in
    let inside : place < length c.args.coefficients.now = omega (arith, ids_long, c.places-numbers.ensures.within c.loop-at.at 0 c.loop-at-test.true) in
    let there : place < length c.loop-at.coefficients = omega (arith, inside, long) in
    let same : length c.loop-at.coefficients ≡ length c.args.places.now = omega (arith, long, ids_long, c.requires.places) in
    let fits : FitsSigned w64 (get_or c.loop-at.coefficients place (pos 0)) = search rules in
    let wide = simp to_z-of_z at c.in-Err.ensures.wide in
    inl (wide_here c.args.multiplier c.args.coefficients.now c.loop-at.coefficients c.args.sums.now c.loop-at.sums place inside will wide)

pub returns-in-Err-add_term-clause-wide : goal.returns-in-Err-add_term-clause-wide
returns-in-Err-add_term-clause-wide c =
    let place = get_or c.places-numbers.result.now c.loop-at.at 0 in
    let own : FitsSigned w64 c.args.multiplier = search rules in
    let will = simp to_z-of_z at c.loop-at.invariant.1 in
    let ids_long : length c.args.coefficients.now ≡ length c.args.flow.now.ids = ap length c.requires.spread ∙ length-map c.args.flow.now.ids (weight_on c.args.flow.now.flow.weights) in
    let long : length c.loop-at.coefficients ≡ length c.args.coefficients.now = c.loop-at.auto.coefficients in
    let long_sums : length c.loop-at.sums ≡ length c.args.coefficients.now = omega (arith, ids_long, c.requires.sums, c.loop-at.auto.sums) in
    let inside : place < length c.args.coefficients.now = omega (arith, ids_long, c.places-numbers.ensures.within c.loop-at.at 0 c.loop-at-test.true) in
    let there : place < length c.loop-at.coefficients = omega (arith, inside, long) in
    let same : length c.loop-at.coefficients ≡ length c.args.places.now = omega (arith, long, ids_long, c.requires.places) in
    let fits : FitsSigned w64 (get_or c.loop-at.coefficients place (pos 0)) = search rules in
    let wide = simp to_z-of_z at c.in-Err-add_term.ensures.wide in
    inr (constant_wide_on_the_way c.args.coefficients.now c.loop-at.coefficients c.args.places.now place c.index-places-place.result c.loop-at.constant (2 ^ 127) same there c.loop-at.invariant.3 wide)

pub loop-at-preserved : goal.loop-at-preserved
loop-at-preserved c =
    let place = get_or c.places-numbers.result.now c.loop-at.at 0 in
    let own : FitsSigned w64 c.args.multiplier = search rules in
    let will = simp to_z-of_z at c.loop-at.invariant.1 in
    let ids_long : length c.args.coefficients.now ≡ length c.args.flow.now.ids = ap length c.requires.spread ∙ length-map c.args.flow.now.ids (weight_on c.args.flow.now.flow.weights) in
    let long : length c.loop-at.coefficients ≡ length c.args.coefficients.now = c.loop-at.auto.coefficients in
    let long_sums : length c.loop-at.sums ≡ length c.args.coefficients.now = omega (arith, ids_long, c.requires.sums, c.loop-at.auto.sums) in
    let inside : place < length c.args.coefficients.now = omega (arith, ids_long, c.places-numbers.ensures.within c.loop-at.at 0 c.loop-at-test.true) in
    let there : place < length c.loop-at.coefficients = omega (arith, inside, long) in
    let same : length c.loop-at.coefficients ≡ length c.args.places.now = omega (arith, long, ids_long, c.requires.places) in
    let fits : FitsSigned w64 (get_or c.loop-at.coefficients place (pos 0)) = search rules in
    let within : c.loop-at.at < length c.args.flow.now.flow.weights = omega (arith, c.places-numbers.ensures.long, c.loop-at-test.true) in
    let added = simp to_z-of_z at c.in-Ok.ensures.added in
    let part_fits = simp to_z-of_z at c.in-Ok.ensures.fits in
    let term = simp to_z-of_z at c.in-Ok-add_term.ensures.added in (
      cleared_more c.args.flow.now.ids c.args.flow.now.flow.weights c.loop-at.at (weight_at c.args.flow.now.flow.weights c.loop-at.at) c.loop-at.coefficients (set c.loop-at.coefficients place (pos 0)) place
          c.places-numbers.ensures.distinct within (weight_at-is c.args.flow.now.flow.weights c.loop-at.at within)
          (number_at c.args.flow.now.ids c.args.flow.now.flow.weights c.places-numbers.result.now c.loop-at.at _ 0 c.places-numbers.ensures.numbers within)
          (omega (arith, long, ids_long)) refl c.loop-at.invariant.0,
      (simp to_z-of_z (will_add_step c.args.multiplier c.args.coefficients.now c.loop-at.coefficients (set c.loop-at.coefficients place (pos 0)) c.args.sums.now c.loop-at.sums c.add_at.new.sums place
          long long_sums inside refl added will)),
      in_range_step (length c.args.flow.now.ids) c.loop-at.sums c.add_at.new.sums place (sum_with_part c.args.multiplier c.loop-at.coefficients c.loop-at.sums place)
          (omega (arith, inside, long_sums)) added part_fits c.loop-at.invariant.2,
      constant_step c.args.coefficients.now c.loop-at.coefficients (set c.loop-at.coefficients place (pos 0)) c.args.places.now place c.index-places-place.result c.loop-at.constant c.add_term.new.sum
          same there c.loop-at.invariant.3 refl term,
    )

pub returns-clause-zeros : goal.returns-clause-zeros
returns-clause-zeros c =
    let own : FitsSigned w64 c.args.multiplier = search rules in
    let will = simp to_z-of_z at c.loop-at.invariant.1 in
    let ids_long : length c.args.coefficients.now ≡ length c.args.flow.now.ids = ap length c.requires.spread ∙ length-map c.args.flow.now.ids (weight_on c.args.flow.now.flow.weights) in
    let long : length c.loop-at.coefficients ≡ length c.args.coefficients.now = c.loop-at.auto.coefficients in
    let long_sums : length c.loop-at.sums ≡ length c.args.coefficients.now = omega (arith, ids_long, c.requires.sums, c.loop-at.auto.sums) in
    let all : c.loop-at.at ≡ length c.args.flow.now.flow.weights = omega (arith, c.places-numbers.ensures.long, c.loop-at-test.false, c.loop-at.auto.at-end) in
    let none : c.loop-at.coefficients ≡ replicate (length c.args.flow.now.ids) (pos 0) =
    all_cleared c.args.flow.now.ids c.args.flow.now.flow.weights c.loop-at.at c.loop-at.coefficients (omega (arith, long, ids_long)) all c.loop-at.invariant.0 in
    none

pub returns-clause-added : goal.returns-clause-added
returns-clause-added c =
    let own : FitsSigned w64 c.args.multiplier = search rules in
    let will = simp to_z-of_z at c.loop-at.invariant.1 in
    let ids_long : length c.args.coefficients.now ≡ length c.args.flow.now.ids = ap length c.requires.spread ∙ length-map c.args.flow.now.ids (weight_on c.args.flow.now.flow.weights) in
    let long : length c.loop-at.coefficients ≡ length c.args.coefficients.now = c.loop-at.auto.coefficients in
    let long_sums : length c.loop-at.sums ≡ length c.args.coefficients.now = omega (arith, ids_long, c.requires.sums, c.loop-at.auto.sums) in
    let all : c.loop-at.at ≡ length c.args.flow.now.flow.weights = omega (arith, c.places-numbers.ensures.long, c.loop-at-test.false, c.loop-at.auto.at-end) in
    let none : c.loop-at.coefficients ≡ replicate (length c.args.flow.now.ids) (pos 0) =
    all_cleared c.args.flow.now.ids c.args.flow.now.flow.weights c.loop-at.at c.loop-at.coefficients (omega (arith, long, ids_long)) all c.loop-at.invariant.0 in
    all_added c.args.multiplier c.args.coefficients.now c.loop-at.coefficients c.args.sums.now c.loop-at.sums (length c.args.flow.now.ids) none ids_long will

pub returns-clause-fits : goal.returns-clause-fits
returns-clause-fits c =
    let own : FitsSigned w64 c.args.multiplier = search rules in
    let will = simp to_z-of_z at c.loop-at.invariant.1 in
    let ids_long : length c.args.coefficients.now ≡ length c.args.flow.now.ids = ap length c.requires.spread ∙ length-map c.args.flow.now.ids (weight_on c.args.flow.now.flow.weights) in
    let long : length c.loop-at.coefficients ≡ length c.args.coefficients.now = c.loop-at.auto.coefficients in
    let long_sums : length c.loop-at.sums ≡ length c.args.coefficients.now = omega (arith, ids_long, c.requires.sums, c.loop-at.auto.sums) in
    let all : c.loop-at.at ≡ length c.args.flow.now.flow.weights = omega (arith, c.places-numbers.ensures.long, c.loop-at-test.false, c.loop-at.auto.at-end) in
    let none : c.loop-at.coefficients ≡ replicate (length c.args.flow.now.ids) (pos 0) =
    all_cleared c.args.flow.now.ids c.args.flow.now.flow.weights c.loop-at.at c.loop-at.coefficients (omega (arith, long, ids_long)) all c.loop-at.invariant.0 in
    all_fit c.args.multiplier c.args.coefficients.now c.args.sums.now c.loop-at.sums
    (all_added c.args.multiplier c.args.coefficients.now c.loop-at.coefficients c.args.sums.now c.loop-at.sums (length c.args.flow.now.ids) none ids_long will)
    (subst (λ n. AreInRange n c.loop-at.sums) (sym ids_long) c.loop-at.invariant.2)

pub returns-clause-value : goal.returns-clause-value
returns-clause-value c =
    let own : FitsSigned w64 c.args.multiplier = search rules in
    let will = simp to_z-of_z at c.loop-at.invariant.1 in
    let ids_long : length c.args.coefficients.now ≡ length c.args.flow.now.ids = ap length c.requires.spread ∙ length-map c.args.flow.now.ids (weight_on c.args.flow.now.flow.weights) in
    let long : length c.loop-at.coefficients ≡ length c.args.coefficients.now = c.loop-at.auto.coefficients in
    let long_sums : length c.loop-at.sums ≡ length c.args.coefficients.now = omega (arith, ids_long, c.requires.sums, c.loop-at.auto.sums) in
    let all : c.loop-at.at ≡ length c.args.flow.now.flow.weights = omega (arith, c.places-numbers.ensures.long, c.loop-at-test.false, c.loop-at.auto.at-end) in
    let none : c.loop-at.coefficients ≡ replicate (length c.args.flow.now.ids) (pos 0) =
    all_cleared c.args.flow.now.ids c.args.flow.now.flow.weights c.loop-at.at c.loop-at.coefficients (omega (arith, long, ids_long)) all c.loop-at.invariant.0 in
    let whole = ap (λ (t : Total). t.value) (constant_whole_taken c.args.coefficients.now c.loop-at.coefficients c.args.places.now (length c.args.flow.now.ids) c.loop-at.constant none c.loop-at.invariant.3) in
    omega (arith, ints, whole, c.value.ensures.value)

pub returns-clause-constant : goal.returns-clause-constant
returns-clause-constant c =
    let own : FitsSigned w64 c.args.multiplier = search rules in
    let will = simp to_z-of_z at c.loop-at.invariant.1 in
    let ids_long : length c.args.coefficients.now ≡ length c.args.flow.now.ids = ap length c.requires.spread ∙ length-map c.args.flow.now.ids (weight_on c.args.flow.now.flow.weights) in
    let long : length c.loop-at.coefficients ≡ length c.args.coefficients.now = c.loop-at.auto.coefficients in
    let long_sums : length c.loop-at.sums ≡ length c.args.coefficients.now = omega (arith, ids_long, c.requires.sums, c.loop-at.auto.sums) in
    let all : c.loop-at.at ≡ length c.args.flow.now.flow.weights = omega (arith, c.places-numbers.ensures.long, c.loop-at-test.false, c.loop-at.auto.at-end) in
    let none : c.loop-at.coefficients ≡ replicate (length c.args.flow.now.ids) (pos 0) =
    all_cleared c.args.flow.now.ids c.args.flow.now.flow.weights c.loop-at.at c.loop-at.coefficients (omega (arith, long, ids_long)) all c.loop-at.invariant.0 in
    let whole = ap (λ (t : Total). t.size) (constant_whole_taken c.args.coefficients.now c.loop-at.coefficients c.args.places.now (length c.args.flow.now.ids) c.loop-at.constant none c.loop-at.invariant.3) in
    omega (arith, whole, c.value.ensures.fits)
