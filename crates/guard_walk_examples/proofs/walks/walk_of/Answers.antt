use Rattle.std.proofs.Common.{◌≡◌, ◌-◌, ◌<◌, ◌^◌, ap, arith, length, min, subst, sym, ◌∙◌}
use Rattle.std.specs.List.{range_with_len}
use Rattle.bindings.specs.Listed.{product}
use Rattle.guard_walks.specs.Walks.{AreVariables, IsOver, all_sizes, values_at}
use Rattle.guard_walk_examples.proofs.Whole.{all-declared, all-values, over-all, length-all}
use Rattle.guard_walk_examples.proofs.walks.walk_of.Goals as goal

pub new-requires-clause-declared : goal.new-requires-clause-declared
new-requires-clause-declared c =
    let n = length (all_sizes c.args.signature.now) in
    let many : c.len-2.result ≡ n = omega (arith, c.len-2.ensures, c.in-Ok.sizes.ok.0, ap length c.in-Ok.ensures) in
    subst (AreVariables n) (sym (c.in-Ok-all_of.ensures ∙ ap (range_with_len 0) many)) (all-declared n)

pub new-requires-clause-over : goal.new-requires-clause-over
new-requires-clause-over c =
    let s = c.args.signature.now in
    let n = length (all_sizes s) in
    let many : c.len-2.result ≡ n = omega (arith, c.len-2.ensures, c.in-Ok.sizes.ok.0, ap length c.in-Ok.ensures) in
    subst (IsOver s c.in_ok-compiled.compiled) (sym (c.in-Ok-all_of.ensures ∙ ap (range_with_len 0) many)) (over-all s c.in_ok-compiled.compiled)

pub new-requires-clause-few : goal.new-requires-clause-few
new-requires-clause-few c =
    let many = ap length c.in-Ok-all_of.ensures in
    omega (arith, many, length-all c.len-2.result, c.len-2.ensures, c.len.ensures, c.if-len-gt8.false)

pub new-requires-clause-small : goal.new-requires-clause-small
new-requires-clause-small c =
    let s = c.args.signature.now in
    let n = length (all_sizes s) in
    let many : c.len-2.result ≡ n = omega (arith, c.len-2.ensures, c.in-Ok.sizes.ok.0, ap length c.in-Ok.ensures) in
    let same : values_at (all_sizes s) c.in-Ok-all_of.all ≡ all_sizes s = ap (values_at (all_sizes s)) (c.in-Ok-all_of.ensures ∙ ap (range_with_len 0) many) ∙ all-values (all_sizes s) in
    let counted : c.count_of.result ≡ min (product (all_sizes s)) (2 ^ 64 - 1) = c.count_of.ensures ∙ ap (λ xs. min (product xs) (2 ^ 64 - 1)) (c.as_slice.ensures.value ∙ c.in-Ok.ensures) in
    let small : product (all_sizes s) < 2 ^ 32 = omega (arith, counted, c.if-count_of-gt2097152.false) in
    subst (λ xs. product xs < 2 ^ 32) (sym same) small
