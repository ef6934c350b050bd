use Rattle.std.proofs.Common.{ap, arith}
use Rattle.colour_sorts.specs.Colours.{size}
use Rattle.colour_sorts.proofs.Folds.{size-Range}
use Rattle.colour_sorts.proofs.domains.Domains.member_place.Goals as goal

pub range_place-requires : goal.range_place-requires
range_place-requires c =
    let constants = c.args.self.now.constants in
    omega (arith, c.requires.limit, ap (size constants) c.in-Range.is, size-Range constants c.in-Range.range)
