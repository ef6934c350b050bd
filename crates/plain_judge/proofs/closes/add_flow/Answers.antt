use Rattle.std.proofs.Common.{◌<◌, ◌^◌, ℤ, List, map, neg_ℤ, rules, ap, subst, ◌∙◌, FitsSigned, w64}
use mir.Facts.{to_z-of_z}
use mir.Syntax.{w128}
use Rattle.wide_sums.specs.Total.{total_of}
use Rattle.plain_model.specs.Sums.{sum_of, products}
use Rattle.plain_judge.specs.Residuals.{AddsPart, FitPart, markings}
use Rattle.plain_model.specs.Forms.{flow_slack}
use Rattle.plain_judge.proofs.Settled.{settled_wide}
use Rattle.plain_judge.proofs.Slacks.{constant_by_places}
use Rattle.plain_judge.proofs.closes.add_flow.Goals as goal

pub returns-in-Ok-settle_weights-clause-adds : goal.returns-in-Ok-settle_weights-clause-adds
returns-in-Ok-settle_weights-clause-adds c =
    let own : FitsSigned w64 c.args.multiplier = search rules in
    let large : FitsSigned w128 c.in-Ok-settle_weights.constant = search rules in
    let added = simp to_z-of_z at c.in-Ok-settle_weights.ensures.added in
    let fits = simp to_z-of_z at c.in-Ok-settle_weights.ensures.fits in
    let spread = c.in-Ok.ensures in
    let same = constant_by_places c.args.net.now c.args.flow.now.flow c.args.flow.now.ids c.spread_on_zeros.new.coefficients c.requires.places spread in
    let terms = ap (λ ps. map neg_ℤ (products c.spread_on_zeros.new.coefficients (markings ps))) c.as_slice.ensures ∙ same in
    record {
      added = subst (λ (ys : List ℤ). AddsPart c.args.multiplier ys c.args.sums.now c.settle_weights.new.sums) spread added;
      sums_fit = subst (λ (ys : List ℤ). FitPart c.args.multiplier ys c.args.sums.now) spread fits;
      constant = simp to_z-of_z (c.in-Ok-settle_weights.ensures.value ∙ ap sum_of terms);
      constant_fits = subst (λ (ts : List ℤ). (total_of ts).size < 2 ^ 127) terms c.in-Ok-settle_weights.ensures.constant;
    }

pub returns-in-Err-settle_weights-clause-wide : goal.returns-in-Err-settle_weights-clause-wide
returns-in-Err-settle_weights-clause-wide c = λ is.
    let own : FitsSigned w64 c.args.multiplier = search rules in
    let wide = simp to_z-of_z at (c.in-Err-settle_weights.ensures.wide) in
    let spread = c.in-Ok.ensures in
    let same = constant_by_places c.args.net.now c.args.flow.now.flow c.args.flow.now.ids c.spread_on_zeros.new.coefficients c.requires.places spread in
    let terms = ap (λ ps. map neg_ℤ (products c.spread_on_zeros.new.coefficients (markings ps))) c.as_slice.ensures ∙ same in
    settled_wide c.args.flow.now.ids c.args.multiplier (flow_slack c.args.net.now c.args.flow.now.flow) c.args.sums.now c.spread_on_zeros.new.coefficients _ spread terms wide
