use Rattle.std.proofs.Common.{◌<◌, ◌^◌, ℤ, List, inl, ap, rules, subst, ◌∙◌, FitsSigned, w64}
use mir.Facts.{to_z-of_z}
use mir.Syntax.{w128}
use Rattle.wide_sums.specs.Total.{total_of}
use Rattle.plain_model.specs.declared.properties.Property.{Property}
use Rattle.plain_model.specs.Forms.{hypothesis_slack}
use Rattle.plain_model.specs.Sums.{sum_of}
use Rattle.plain_judge.specs.Residuals.{AddsPart, FitPart, IsPartWide}
use Rattle.plain_judge.proofs.closes.add_hypothesis.Goals as goal

pub returns-in-Ok-clause-adds : goal.returns-in-Ok-clause-adds
returns-in-Ok-clause-adds c =
    let own : FitsSigned w64 c.args.multiplier = search rules in
    let large : FitsSigned w128 c.constant_of_hypothesis.result = search rules in
    let added = simp to_z-of_z at c.in-Ok.ensures.added in
    let fits = simp to_z-of_z at c.in-Ok.ensures.fits in
    record {
      added = subst (λ (ys : List ℤ). AddsPart c.args.multiplier ys c.args.sums.now c.add_part.new.sums) c.coefficients.ensures added;
      sums_fit = subst (λ (ys : List ℤ). FitPart c.args.multiplier ys c.args.sums.now) c.coefficients.ensures fits;
      constant = simp to_z-of_z (c.constant_of_hypothesis.ensures.value ∙ ap (λ (p : Property). sum_of (hypothesis_slack p).constant) c.property.ensures);
      constant_fits = subst (λ (p : Property). (total_of (hypothesis_slack p).constant).size < 2 ^ 127) c.property.ensures c.constant_of_hypothesis.ensures.fits;
    }

pub returns-in-Err-clause-wide : goal.returns-in-Err-clause-wide
returns-in-Err-clause-wide c = λ is.
    let own : FitsSigned w64 c.args.multiplier = search rules in
    let wide = simp to_z-of_z at c.in-Err.ensures.wide in
    inl (subst (λ (ys : List ℤ). IsPartWide c.args.multiplier ys c.args.sums.now) c.coefficients.ensures wide)
