use Rattle.std.proofs.Common.{◌-◌, ◌^◌, arith}
use Rattle.bindings.proofs.Counting.{counted-more}
use Rattle.bindings.proofs.numbers.count_of.Goals as goal

pub loop-size-preserved : goal.loop-size-preserved
loop-size-preserved c =
    let l = c.loop-size in
    record {
      within = (let fits = c.saturating_mul-count.type_inv in omega (arith, fits));
      rest = counted-more c.args.sizes.now l.size-index l.count c.saturating_mul-count.result (2 ^ 64 - 1) c.loop-size-test.true c.saturating_mul-count.ensures l.invariant.rest;
    }
