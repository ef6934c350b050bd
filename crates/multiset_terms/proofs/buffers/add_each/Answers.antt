use Rattle.std.proofs.Common.{◌≡◌, ◌≢◌, ℕ, ◌+◌, ◌*◌, ◌<◌, ◌≤◌, refl, arith}
use Rattle.std.specs.Prelude.{nat_lt}
use Rattle.std.proofs.Math.Nat.{mul-le-mul_left}
use Rattle.std.proofs.lemmas.Bool.Decides.{nat_tests}
use Rattle.multiset_terms.specs.Trees.{once}
use Rattle.multiset_terms.proofs.Gaining.{gain-none, gain-one}
use Rattle.multiset_terms.proofs.buffers.add_each.Goals as goal

none-below : (q : ℕ) → once (nat_lt q 0) ≡ 0
none-below q = grind (arith, nat_tests)

one-more : (at : ℕ) → once (nat_lt at (at + 1)) ≡ once (nat_lt at at) + 1
one-more at = grind (arith, nat_tests)

others : (at q : ℕ) → q ≢ at → once (nat_lt q (at + 1)) ≡ once (nat_lt q at)
others at q away = grind (arith, nat_tests)

pub loop-at-init : goal.loop-at-init
loop-at-init c = gain-none c.args.scale c.args.size (λ p. once (nat_lt p 0)) c.args.cells.now.items none-below

pub push-requires-clause-fits : goal.push-requires-clause-fits
push-requires-clause-fits c =
    let less : c.args.scale.times * 1 ≤ c.args.scale.times * c.args.size = mul-le-mul_left c.args.scale.times (omega (arith, c.loop-at-test.true)) in
    omega (arith, less, c.requires.fits)

pub loop-at-preserved : goal.loop-at-preserved
loop-at-preserved c =
    let at = c.loop-at.at in
    gain-one c.args.scale c.args.size (λ p. once (nat_lt p at)) (λ p. once (nat_lt p (at + 1))) at at 1 c.args.cells.now.items c.loop-at.cells.items c.push.new.cells.items
    c.loop-at.invariant c.loop-at-test.true (one-more at) (others at) c.in_ok-push.ensures
