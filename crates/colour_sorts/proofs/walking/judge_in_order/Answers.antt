use Rattle.std.proofs.Common.{◌<◌, arith, length}
use Rattle.std.proofs.lemmas.Option.{slice_get-get_or, slice_get_within}
use Rattle.colour_sorts.proofs.Walks.{all-marked-more, behind-marked}
use Rattle.colour_sorts.proofs.walking.judge_in_order.Goals as goal

pub judge-requires-clause-behind : goal.judge-requires-clause-behind
judge-requires-clause-behind c = behind-marked c.args.sorts.now c.args.order.now c.loop-at.marks c.loop-at.at-index _ c.requires.order
    (slice_get-get_or c.args.order.now c.loop-at.at-index 0 c.loop-at-test.true) (λ k to less e. c.loop-at.invariant.done k to less e)

pub loop-at-preserved : goal.loop-at-preserved
loop-at-preserved c = record {
  marked = c.judge.ensures.marked;
  done = all-marked-more c.args.sorts.now c.args.order.now c.loop-at.marks c.judge.new.marks c.loop-at.at-index c.judge.ensures.keeps c.loop-at.invariant.done c.judge.ensures.here;
}

pub returns-clause-all : goal.returns-clause-all
returns-clause-all c = λ at within. (let has = c.requires.order.complete at within in
    c.loop-at.invariant.done has.0 at (omega (arith, slice_get_within c.args.order.now has.0 at has.1, c.loop-at-test.false)) has.1)
