use Rattle.std.proofs.Common.{sym, ap, ◌∙◌, [], length, arith}
use Rattle.std.proofs.lemmas.List.{get_or_past, length-map}
use Rattle.std.specs.Option.{option_copied}
use Rattle.colour_sorts.specs.Groups.{names_of}
use Rattle.colour_sorts.proofs.Grouped.{get-none}
use Rattle.colour_sorts.proofs.groups.Groups.count.Goals as goal

pub returns-in-None : goal.returns-in-None
returns-in-None c =
    let past = get-none c.self.inside.groups c.args.at (sym c.get.ensures.value ∙ ap option_copied c.in-None.is) in
    sym (ap length (get_or_past c.args.self.now c.args.at [] (omega (arith, past, ap length c.self.view_is, length-map c.self.inside.groups (names_of c.self.inside.names)))))
