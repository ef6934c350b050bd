use Rattle.std.proofs.Common.{◌-◌, arith}
use Rattle.bindings.proofs.Binding.{each-some, one-more, whole-binding}
use Rattle.bindings.proofs.numbers.binding_at.Goals as goal

pub nonzero_rem-indices : goal.nonzero_rem-indices
nonzero_rem-indices c = each-some c.args.sizes.now (c.loop-at.at - 1) c.args.number c.requires.within (let here = c.loop-at-test.true in let bound = c.loop-at.invariant.bound in omega (arith, here, bound))

pub nonzero_div-rest : goal.nonzero_div-rest
nonzero_div-rest c = each-some c.args.sizes.now (c.loop-at.at - 1) c.args.number c.requires.within (let here = c.loop-at-test.true in let bound = c.loop-at.invariant.bound in omega (arith, here, bound))

pub loop-at-preserved : goal.loop-at-preserved
loop-at-preserved c =
    let l = c.loop-at in
    one-more c.args.sizes.now l.indices (l.at - 1) l.at l.rest c.args.number (let here = c.loop-at-test.true in omega (arith, here)) c.requires.within l.invariant c.loop-at-test.true

pub returns : goal.returns
returns c =
    let l = c.loop-at in
    whole-binding c.args.sizes.now l.indices l.at l.rest c.args.number (let here = c.loop-at-test.false in omega (arith, here)) c.requires.within l.invariant
