use Rattle.std.proofs.Common.{ap, arith}
use Rattle.std.proofs.lemmas.Int.{ints}
use Rattle.wide_sums.specs.Total.{Total}
use Rattle.plain_judge.proofs.Terms.{both_rows}
use Rattle.plain_judge.proofs.steps.total_of_cells.Goals as goal

pub returns-in-Err-clause-wide : goal.returns-in-Err-clause-wide
returns-in-Err-clause-wide c =
    let both = ap (λ (t : Total). t.size) (both_rows c.args.coefficients.now c.args.taken.now c.args.put.now) in
    omega (arith, both, ap (λ (t : Total). t.size) c.zero-sum.ensures, c.in-Err.ensures.wide)

pub returns-in-Err-add_cells-clause-wide : goal.returns-in-Err-add_cells-clause-wide
returns-in-Err-add_cells-clause-wide c =
    let both = ap (λ (t : Total). t.size) (both_rows c.args.coefficients.now c.args.taken.now c.args.put.now) in
    let zero = ap (λ (t : Total). t.size) c.zero-sum.ensures in
    let first = ap (λ (t : Total). t.size) c.in-Ok.ensures.added in
    omega (arith, both, zero, first, c.in-Err-add_cells.ensures.wide)

pub returns-clause-value : goal.returns-clause-value
returns-clause-value c =
    let both = ap (λ (t : Total). t.value) (both_rows c.args.coefficients.now c.args.taken.now c.args.put.now) in
    let zero = ap (λ (t : Total). t.value) c.zero-sum.ensures in
    let first = ap (λ (t : Total). t.value) c.in-Ok.ensures.added in
    let second = ap (λ (t : Total). t.value) c.in-Ok-add_cells.ensures.added in
    omega (arith, ints, both, zero, first, second, c.value.ensures.value)

pub returns-clause-fits : goal.returns-clause-fits
returns-clause-fits c =
    let both = ap (λ (t : Total). t.size) (both_rows c.args.coefficients.now c.args.taken.now c.args.put.now) in
    let zero = ap (λ (t : Total). t.size) c.zero-sum.ensures in
    let first = ap (λ (t : Total). t.size) c.in-Ok.ensures.added in
    let second = ap (λ (t : Total). t.size) c.in-Ok-add_cells.ensures.added in
    omega (arith, both, zero, first, second, c.value.ensures.fits)
