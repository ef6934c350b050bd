use Rattle.std.proofs.Common.{◌≡◌, ◌++◌, ◌∷◌, ◌-◌, [], ap, sym, ◌∙◌, arith, length, length-append, map, subst}
use Rattle.std.specs.List.{IsDistinct}
use Rattle.std.specs.Str.{bytes_eq}
use Rattle.colour_sorts.specs.declared.groups.Group.{Group}
use Rattle.net_model.specs.Ids.{names_in}
use Rattle.colour_sorts.specs.Groups.{names_of}
use Rattle.colour_sorts.proofs.Grouped.{grouped-more, views-more}
use Rattle.colour_sorts.proofs.groups.Groups.with.Goals as goal

pub invariant_of-result : goal.invariant_of-result
invariant_of-result c =
    let names = c.self.inside.names in
    let group = c.args.group.now in
    let joined : names ≡ names_in c.args.self = c.self.invariant.5 ∙ ap names_in c.self.view_is in
    let whole = c.in_ok-add_names.ensures.names in
    let g : Group = record { first = c.count-first.result; count = c.count.result - c.count-first.result } in
    grouped-more names group c.add_names.new.names c.self.inside.groups c.push.new.self c.self.inside.owners c.add_names.new.owners c.len-at.result g c.self.invariant
    whole c.in_ok-push.ensures.ok c.in_ok-add_names.ensures.owners c.len-at.ensures c.count-first.ensures
    (omega (arith, c.count.ensures, c.count-first.ensures, ap length whole, length-append names group))
    (subst (λ xs. IsDistinct bytes_eq (xs ++ group)) (sym joined) c.requires.distinct)
    (omega (arith, c.requires.names, ap (λ xs. length (xs ++ group)) joined))

pub returns : goal.returns
returns c =
    let names = c.self.inside.names in
    let groups = c.self.inside.groups in
    let group = c.args.group.now in
    let whole = c.in_ok-add_names.ensures.names in
    let g : Group = record { first = c.count-first.result; count = c.count.result - c.count-first.result } in
    ap (λ ns. map (names_of ns) c.push.new.self) whole
    ∙ ap (map (names_of (names ++ group))) c.in_ok-push.ensures.ok
    ∙ views-more names group groups g c.self.invariant.1 c.count-first.ensures (omega (arith, c.count.ensures, c.count-first.ensures, ap length whole, length-append names group))
    ∙ ap (λ gs. gs ++ group ∷ []) c.self.view_is
