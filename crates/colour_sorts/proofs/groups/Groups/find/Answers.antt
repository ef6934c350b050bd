use Rattle.std.proofs.Common.{sym, ap, ◌∙◌, get_or, ◌-◌, arith, subst}
use Rattle.std.proofs.lemmas.Option.{slice_get-get_or}
use Rattle.std.proofs.lemmas.List.Quantifiers.{position-Some}
use Rattle.std.specs.Str.{bytes_eq}
use Rattle.colour_sorts.specs.Calls.{group_of}
use Rattle.colour_sorts.proofs.Constants.{no_group}
use Rattle.colour_sorts.proofs.Grouped.{IsSpot, found-spot, nowhere}
use Rattle.colour_sorts.proofs.groups.Groups.find.Goals as goal

pub returns-in-None : goal.returns-in-None
returns-in-None c =
    ap (λ groups. group_of groups c.args.name.now) (sym c.self.view_is)
    ∙ nowhere c.self.inside.names c.self.inside.groups c.args.name.now c.self.invariant.0 c.self.invariant.1 (sym c.find.ensures ∙ c.in-None.is)

pub returns-in-Some : goal.returns-in-Some
returns-in-Some c =
    let names = c.self.inside.names in
    let owners = c.self.inside.owners in
    let number = c.in-Some.number in
    let found = sym c.find.ensures ∙ c.in-Some.is in
    let within = (position-Some (bytes_eq c.args.name.now) names number c.args.name.now found).0 in
    let spot = found-spot names c.self.inside.groups owners c.args.name.now number (get_or owners number 0) c.self.invariant.0 c.self.invariant.1 c.self.invariant.3 found
    (slice_get-get_or owners number 0 (omega (arith, within, c.self.invariant.4))) in
    let known = subst (λ groups. IsSpot groups c.args.name.now (get_or owners number 0) (number - (get_or c.self.inside.groups (get_or owners number 0) no_group).first)) c.self.view_is spot.1 in
    rw (c.as_slice.ensures, c.as_slice-in-Some.ensures) (known.group, known.place)
