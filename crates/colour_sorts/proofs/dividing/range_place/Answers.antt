use Rattle.std.proofs.Common.{ap, sym, ◌∙◌, subst, rules, FitsSigned, w64, to_z-of_z}
use Rattle.std.specs.Prelude.{map, int_le, ◌&&◌}
use Rattle.colour_sorts.specs.Colours.{span_numbers}
use Rattle.colour_sorts.specs.Filling.{IsMemberAt}
use Rattle.colour_sorts.specs.declared.sorts.Colour.TheVariants as variants
use Rattle.net_model.specs.declared.sorts.Member.TheVariants as members
use Rattle.colour_sorts.proofs.Members.{member-Range, number-place, range-other, spans-same}
use Rattle.colour_sorts.proofs.dividing.range_place.Goals as goal

pub returns-then-eq : goal.returns-then-eq
returns-then-eq c = λ constants.
    (let fits : FitsSigned w64 c.in-Number.value = search rules in
    let place = simp to_z-of_z at c.number_index.ensures in
    let range = c.args.range in
    let value = c.in-Number.value in
    let same = spans-same c.in-Number.span range (sym c.eq.ensures ∙ c.if-eq.true) in
    rw (c.in-Number.is, same)
    (subst (λ test. IsMemberAt (map variants.Number (span_numbers range)) (members.Number value range) test c.number_index.result) (sym (member-Range constants range (members.Number value range)))
    (number-place range value c.number_index.result place)))

pub returns-else-eq : goal.returns-else-eq
returns-else-eq c = λ constants.
    (let span = c.in-Number.span in
    let range = c.args.range in
    let value = c.in-Number.value in
    rw c.in-Number.is
    (member-Range constants range (members.Number value span)
    ∙ ap (λ b. b && int_le range.first value && int_le value range.last) (sym c.eq.ensures ∙ c.if-eq.false)))

pub returns-in_default : goal.returns-in_default
returns-in_default c = λ constants. (member-Range constants c.args.range c.args.member.now ∙ range-other constants c.args.range c.args.member.now c.in_default.not-Number)
