use Rattle.std.proofs.Common.{◌≡◌, ◌<◌, sym, arith}
use Rattle.multiset_terms.proofs.SideBySide.{past, met, short-before, short-there}
use Rattle.multiset_terms.proofs.differences.taken_off.Goals as goal
use Rattle.multiset_terms.proofs.differences.taken_off.Goals.{else-other-cell-via-then-other-cell+else-other-cell-2, else-other-cell-via-else-other-cell}

pub returns-then-taken-part-clause-taken : goal.returns-then-taken-part-clause-taken
returns-then-taken-part-clause-taken c =
    past c.args.whole.now c.args.part.now c.args.at c.args.taken c.requires.whole c.requires.part c.requires.within c.requires.read
    (λ some. absurd (omega (arith, some, c.if-taken-part.true)))

pub returns-then-cell-other-clause-taken : goal.returns-then-cell-other-clause-taken
returns-then-cell-other-clause-taken c =
    past c.args.whole.now c.args.part.now c.args.at c.args.taken c.requires.whole c.requires.part c.requires.within c.requires.read
    (λ some. c.if-cell-other.true)

pub returns-then-other-cell-2-clause-taken : goal.returns-then-other-cell-2-clause-taken
returns-then-other-cell-2-clause-taken c =
    met c.args.whole.now c.args.part.now c.args.at c.args.taken c.requires.whole c.requires.part c.requires.within c.requires.read
    (omega (arith, c.requires.read.order, c.if-taken-part.false)) c.if-other-cell.true c.if-other-cell-2.true

pub returns-clause-short : goal.returns-clause-short
returns-clause-short c =
    elim c.else-other-cell.branch [
      | else-other-cell-via-then-other-cell+else-other-cell-2 w ↦
          short-there c.args.whole.now c.args.part.now c.args.at c.args.taken c.requires.whole c.requires.part c.requires.within (omega (arith, c.requires.read.order, c.if-taken-part.false))
          w.if-other-cell.true (omega (arith, w.if-other-cell-2.false))
      | else-other-cell-via-else-other-cell w ↦
          short-before c.args.whole.now c.args.part.now c.args.at c.args.taken c.requires.whole c.requires.part (omega (arith, c.requires.within)) c.requires.read (omega (arith, c.requires.read.order, c.if-taken-part.false))
          (λ inside. omega (arith, c.if-cell-other.false, w.if-other-cell.false))
    ]
