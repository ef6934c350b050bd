use Rattle.std.proofs.Common.{arith, ◌∙◌, length-set}
use Rattle.std.proofs.lemmas.Bool.Decides.{nat_tests}
use Rattle.colour_sorts.specs.Colours.{colours}
use Rattle.colour_sorts.proofs.Filled.{filling-more, twice-at}
use Rattle.colour_sorts.proofs.domains.Domains.put_members.Goals as goal

pub returns-then-blocks-place-clause-filled : goal.returns-then-blocks-place-clause-filled
returns-then-blocks-place-clause-filled c = λ done is start.
    twice-at (colours c.args.self.now.constants c.args.sort.now) done c.args.members.now c.loop-member.member-index c.member-item.result c.args.most c.in-Some.place c.loop-member.blocks
    c.loop-member-test.true c.member-item.is c.in-Some.ensures.1 (λ e. grind (arith, nat_tests, e, c.if-blocks-place.true)) (c.loop-member.invariant.filled done is start)

pub loop-member-preserved : goal.loop-member-preserved
loop-member-preserved c = record {
  long = length-set c.loop-member.blocks c.in-Some.place c.args.block ∙ c.loop-member.invariant.long;
  filled = λ done is start.
      rw is
      (filling-more (colours c.args.self.now.constants c.args.sort.now) done c.args.members.now c.loop-member.member-index c.member-item.result c.args.most c.in-Some.place c.loop-member.blocks
      c.loop-member-test.true c.member-item.is c.in-Some.ensures.1 (grind (arith, nat_tests, c.if-blocks-place.false)) (omega (arith, c.requires.below, is)) (c.loop-member.invariant.filled done is start));
}
