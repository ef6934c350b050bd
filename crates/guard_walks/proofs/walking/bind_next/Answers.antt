use Rattle.std.proofs.Common.{◌≡◌, ◌/◌, ◌+◌, arith, ap, drop, get_or, sym, ◌∙◌}
use Rattle.std.proofs.Math.ListN.{set}
use Rattle.bindings.specs.Listed.{product}
use Rattle.guard_walks.specs.Walks.{values_at}
use Rattle.guard_walks.proofs.Digits.{step_at, stands_more}
use Rattle.guard_walks.proofs.Setting.{value-at}
use Rattle.guard_walks.proofs.walking.bind_next.Goals as goal

pub returns-clause-stands : goal.returns-clause-stands
returns-clause-stands c =
    let w = c.args.walk.now in
    let p = c.args.progress.now in
    let xs = c.args.indices.now in
    let weight = p.weight / get_or c.as_slice.result.now p.bound 0 in
    let step = step_at w.sizes p (values_at xs w.variables) c.requires.within c.requires.stands in
    let is : weight ≡ product (drop (p.bound + 1) w.sizes) = ap (λ ss. p.weight / get_or ss p.bound 0) c.as_slice.ensures ∙ step.quotient in
    stands_more w.sizes p (values_at xs w.variables) (values_at c.put.new.indices w.variables) weight c.requires.within c.requires.stands is
    (ap (values_at c.put.new.indices) (sym c.as_slice-2.ensures) ∙ c.put.ensures.values ∙ ap (λ vs. set (values_at xs vs) p.bound (p.rest / weight)) c.as_slice-2.ensures)

pub returns-clause-binding : goal.returns-clause-binding
returns-clause-binding c all sized fits =
    let w = c.args.walk.now in
    let p = c.args.progress.now in
    let weight = p.weight / get_or c.as_slice.result.now p.bound 0 in
    let step = step_at w.sizes p (values_at c.args.indices.now w.variables) c.requires.within c.requires.stands in
    let value : p.rest / weight ≡ p.rest / product (drop (p.bound + 1) w.sizes) = ap (λ n. p.rest / n) (ap (λ ss. p.weight / get_or ss p.bound 0) c.as_slice.ensures ∙ step.quotient) in
    let size : get_or w.sizes p.bound 0 ≡ get_or all (get_or c.as_slice-2.result.now p.bound 0) 0 =
    ap (λ ss. get_or ss p.bound 0) sized ∙ value-at all w.variables p.bound (omega (arith, c.requires.within, c.requires.even)) ∙ ap (λ vs. get_or all (get_or vs p.bound 0) 0) (sym c.as_slice-2.ensures) in
    c.put.ensures.binding all fits (omega (arith, step.small, value, size))
