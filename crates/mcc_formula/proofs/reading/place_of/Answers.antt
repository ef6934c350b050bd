use Rattle.std.proofs.Common.{sym, ap, ◌∙◌}
use Rattle.std.specs.Str.{bytes_eq}
use Rattle.mcc_formula.proofs.ByPlace.{place_found, place_missing}
use Rattle.mcc_formula.proofs.reading.place_of.Goals as goal

pub returns-then-eq-clause-place : goal.returns-then-eq-clause-place
returns-then-eq-clause-place c =
    place_found c.args.name.now c.args.list.now c.loop-at.at c.index-list-at.result c.loop-at-test.true c.index-list-at.is
    (sym (c.eq.ensures ∙ ap (bytes_eq c.args.name.now) c.bytes.ensures) ∙ c.if-eq.true) c.loop-at.invariant

pub returns-clause-place : goal.returns-clause-place
returns-clause-place c = place_missing c.args.name.now c.args.list.now c.loop-at.at c.loop-at-test.false c.loop-at.invariant
