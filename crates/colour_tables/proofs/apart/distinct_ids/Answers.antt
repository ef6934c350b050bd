use Rattle.std.proofs.Common.{sym, subst}
use Rattle.std.specs.List.{IsDistinct}
use Rattle.std.specs.Str.{bytes_eq}
use Rattle.colour_tables.proofs.NewNames.{apart-next, none-apart}
use Rattle.colour_tables.proofs.apart.distinct_ids.Goals as goal

pub loop-name-init : goal.loop-name-init
loop-name-init c = (c.new-ids.ensures, subst (IsDistinct bytes_eq) (sym c.new-ids.ensures) none-apart)

pub loop-name-preserved : goal.loop-name-preserved
loop-name-preserved c =
    let known = rw c.in-New.is at c.in_ok-add.ensures.added in
    apart-next c.args.names.now c.loop-name.name-index c.name-item.result c.in_ok-copy.field-0 c.loop-name.ids c.add.new.self c.loop-name-test.true c.name-item.is c.in_ok-copy.ensures
    c.loop-name.invariant.0 c.loop-name.invariant.1 known.0 known.2
