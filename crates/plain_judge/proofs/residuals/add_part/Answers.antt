use Rattle.std.proofs.Common.{◌≡◌, ◌<◌, ◌≤◌, ◌^◌, length, get_or, pos, ◌*ℤ◌, rules, arith, FitsSigned, w64, ap, ◌∙◌, subst}
use mir.Facts.{to_z-of_z}
use mir.Syntax.{w128}
use Rattle.wide_sums.specs.Total.{Total, with_term, zero_total}
use Rattle.plain_judge.specs.Residuals.{sum_with_part}
use Rattle.plain_judge.proofs.Sums.{parts_more, rest_stays, fits_more}
use Rattle.std.proofs.lemmas.List.{get_or_default}
use Rattle.plain_judge.proofs.residuals.add_part.Goals as goal

pub returns-in-Err-clause-wide : goal.returns-in-Err-clause-wide
returns-in-Err-clause-wide c =
    let within : c.loop-place.place < length c.loop-place.sums = omega arith in
    let fits : FitsSigned w64 (get_or c.args.coefficients.now c.loop-place.place (pos 0)) = search rules in
    let large : FitsSigned w128 (get_or c.args.coefficients.now c.loop-place.place (pos 0)) = record { sfits = omega (arith, fits.sfits) } in
    let own : FitsSigned w64 c.args.multiplier = search rules in
    let wide = simp to_z-of_z at c.in-Err.ensures.wide in
    let old : c.index-sums-place.result ≡ get_or c.args.sums.now c.loop-place.place zero_total =
    c.index-sums-place.is ∙ get_or_default c.loop-place.sums c.loop-place.place c.index-sums-place.result zero_total within ∙ c.loop-place.invariant.1 c.loop-place.place (omega arith) in
    (c.loop-place.place, c.loop-place-test.true, subst (λ (t : Total). 2 ^ 127 ≤ (with_term t (c.args.multiplier *ℤ get_or c.args.coefficients.now c.loop-place.place (pos 0))).size) old wide)

pub loop-place-preserved : goal.loop-place-preserved
loop-place-preserved c =
    let within : c.loop-place.place < length c.loop-place.sums = omega arith in
    let fits : FitsSigned w64 (get_or c.args.coefficients.now c.loop-place.place (pos 0)) = search rules in
    let large : FitsSigned w128 (get_or c.args.coefficients.now c.loop-place.place (pos 0)) = record { sfits = omega (arith, fits.sfits) } in
    let own : FitsSigned w64 c.args.multiplier = search rules in
    let added = simp to_z-of_z at c.in-Ok.ensures.added in
    let old : c.index-sums-place.result ≡ get_or c.args.sums.now c.loop-place.place zero_total =
    c.index-sums-place.is ∙ get_or_default c.loop-place.sums c.loop-place.place c.index-sums-place.result zero_total within ∙ c.loop-place.invariant.1 c.loop-place.place (omega arith) in
    let sum : c.add_multiple.new.sum ≡ sum_with_part c.args.multiplier c.args.coefficients.now c.args.sums.now c.loop-place.place =
    added ∙ ap (λ (t : Total). with_term t (c.args.multiplier *ℤ get_or c.args.coefficients.now c.loop-place.place (pos 0))) old in
    let before = simp to_z-of_z at c.loop-place.invariant.0 in (
      (simp to_z-of_z (parts_more c.args.multiplier c.args.coefficients.now c.args.sums.now c.loop-place.sums c.loop-place.place c.add_multiple.new.sum within before sum)),
      rest_stays c.args.sums.now c.loop-place.sums c.loop-place.place c.add_multiple.new.sum c.loop-place.invariant.1,
      (simp to_z-of_z (fits_more c.args.multiplier c.args.coefficients.now c.args.sums.now c.loop-place.place (simp to_z-of_z at c.loop-place.invariant.2)
          (subst (λ (t : Total). (with_term t (c.args.multiplier *ℤ get_or c.args.coefficients.now c.loop-place.place (pos 0))).size < 2 ^ 127) old (simp to_z-of_z at c.in-Ok.ensures.fits)))),
    )
