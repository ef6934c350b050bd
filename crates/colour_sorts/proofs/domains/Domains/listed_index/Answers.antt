use Rattle.std.proofs.Common.{ap}
use Rattle.colour_sorts.specs.declared.sorts.Colour.TheVariants as variants
use Rattle.colour_sorts.specs.Colours.{constants_at}
use Rattle.colour_sorts.proofs.Folds.{Constant-injective}
use Rattle.colour_sorts.proofs.PlacesIn.{IsPlace-map, IsPlace-apart}
use Rattle.colour_sorts.proofs.domains.Domains.listed_index.Goals as goal

pub returns-in-Constant : goal.returns-in-Constant
returns-in-Constant c =
    let names = constants_at c.args.self.now.constants c.args.at in
    let known = rw (c.bytes.ensures, ap (λ d. d.constants) c.self.view_is) at c.index.ensures in
    rw c.in-Constant.is (IsPlace-map variants.Constant Constant-injective names c.in-Constant.name c.index.result known)

pub returns-in_default : goal.returns-in_default
returns-in_default c = IsPlace-apart variants.Constant (constants_at c.args.self.now.constants c.args.at) c.args.colour.now c.in_default.not-Constant
