use Rattle.std.proofs.lemmas.Option.{slice_get-get_or, slice_get_within}
use Rattle.std.proofs.Common.{◌<◌, arith, length}
use Rattle.colour_sorts.proofs.Compiled.{all-more, behind-compiled}
use Rattle.colour_sorts.proofs.compiling.compile_in_order.Goals as goal

pub compile_at-requires-clause-behind : goal.compile_at-requires-clause-behind
compile_at-requires-clause-behind c = behind-compiled c.args.sorts.now c.args.order.now c.loop-at.compiled c.loop-at.at-index _ c.requires.order
    (slice_get-get_or c.args.order.now c.loop-at.at-index 0 c.loop-at-test.true) (λ j to less e. c.loop-at.invariant.done j to less e) c.requires.ends

pub loop-at-preserved : goal.loop-at-preserved
loop-at-preserved c = record {
  compiled = c.in_ok-compile_at.ensures.compiled;
  done = all-more c.args.order.now c.loop-at.compiled c.compile_at.new.compiled c.loop-at.at-index c.in_ok-compile_at.ensures.grows c.loop-at.invariant.done c.in_ok-compile_at.ensures.here;
}

pub returns-clause-all : goal.returns-clause-all
returns-clause-all c = λ at within. (let has = c.requires.order.complete at within in
    c.loop-at.invariant.done has.0 at (omega (arith, slice_get_within c.args.order.now has.0 at has.1, c.loop-at-test.false)) has.1)
