use Rattle.std.proofs.Common.{◌≡◌, [], length, sym, ap, arith, rules}
use Rattle.reductions.specs.Merging.{stays}
use Rattle.reductions.proofs.Numbers.{numbers_first}
use Rattle.reductions.proofs.merging.numbered.Goals as goal

pub loop-place-init : goal.loop-place-init
loop-place-init c = record {
  as_long = (let none : c.new-ranks.result.items ≡ [] = search rules in ap length none);
  each = λ p below. absurd (omega arith);
  kept = sym (ap length (numbers_first (stays c.args.constant.now)));
}
