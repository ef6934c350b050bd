use Rattle.std.proofs.Common.{◌≡◌, ◌<◌, ◌≤◌, ◌^◌, ◌*ℤ◌, get_or, set, rules, arith, FitsSigned, w64, ap, ◌∙◌, subst}
use mir.Facts.{to_z-of_z}
use mir.Syntax.{w128}
use Rattle.std.proofs.lemmas.List.{get_or_default}
use Rattle.wide_sums.specs.Total.{Total, with_term, zero_total}
use Rattle.plain_judge.proofs.settling.add_at.Goals as goal

pub returns-in-Err-clause-wide : goal.returns-in-Err-clause-wide
returns-in-Err-clause-wide c =
    let coefficient : FitsSigned w64 c.args.coefficient = search rules in
    let large : FitsSigned w128 c.args.coefficient = record { sfits = omega (arith, coefficient.sfits) } in
    let own : FitsSigned w64 c.args.multiplier = search rules in
    let wide = simp to_z-of_z at c.in-Err.ensures.wide in
    let old : c.index-sums-place.result ≡ get_or c.args.sums.now c.args.place zero_total =
    c.index-sums-place.is ∙ get_or_default c.args.sums.now c.args.place c.index-sums-place.result zero_total c.requires in
    subst (λ (t : Total). 2 ^ 127 ≤ (with_term t (c.args.multiplier *ℤ c.args.coefficient)).size) old wide

pub returns-clause-added : goal.returns-clause-added
returns-clause-added c =
    let coefficient : FitsSigned w64 c.args.coefficient = search rules in
    let large : FitsSigned w128 c.args.coefficient = record { sfits = omega (arith, coefficient.sfits) } in
    let own : FitsSigned w64 c.args.multiplier = search rules in
    let added = simp to_z-of_z at c.in-Ok.ensures.added in
    let old : c.index-sums-place.result ≡ get_or c.args.sums.now c.args.place zero_total =
    c.index-sums-place.is ∙ get_or_default c.args.sums.now c.args.place c.index-sums-place.result zero_total c.requires in
    ap (set c.args.sums.now c.args.place) (added ∙ ap (λ (t : Total). with_term t (c.args.multiplier *ℤ c.args.coefficient)) old)

pub returns-clause-fits : goal.returns-clause-fits
returns-clause-fits c =
    let coefficient : FitsSigned w64 c.args.coefficient = search rules in
    let large : FitsSigned w128 c.args.coefficient = record { sfits = omega (arith, coefficient.sfits) } in
    let own : FitsSigned w64 c.args.multiplier = search rules in
    let fits = simp to_z-of_z at c.in-Ok.ensures.fits in
    let old : c.index-sums-place.result ≡ get_or c.args.sums.now c.args.place zero_total =
    c.index-sums-place.is ∙ get_or_default c.args.sums.now c.args.place c.index-sums-place.result zero_total c.requires in
    subst (λ (t : Total). (with_term t (c.args.multiplier *ℤ c.args.coefficient)).size < 2 ^ 127) old fits
