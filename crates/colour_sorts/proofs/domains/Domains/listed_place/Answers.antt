use Rattle.std.proofs.Common.{ap, sym, ◌∙◌, subst, map}
use Rattle.colour_sorts.specs.Colours.{constants_at}
use Rattle.colour_sorts.specs.Filling.{IsMemberAt}
use Rattle.colour_sorts.specs.declared.sorts.Colour.TheVariants as variants
use Rattle.net_model.specs.declared.sorts.Member.TheVariants as members
use Rattle.colour_sorts.proofs.Members.{constant-place, member-Cyclic, member-Listed, no-constant}
use Rattle.colour_sorts.proofs.domains.Domains.listed_place.Goals as goal

pub returns-in-Constant-clause-listed : goal.returns-in-Constant-clause-listed
returns-in-Constant-clause-listed c =
    let constants = c.args.self.now.constants in
    let place = rw (c.bytes.ensures, ap (λ d. d.constants) c.self.view_is) at c.index.ensures in
    let m = members.Constant c.in-Constant.name in
    rw c.in-Constant.is
    (subst (λ test. IsMemberAt (map variants.Constant (constants_at constants c.args.at)) m test c.index.result) (sym (member-Listed constants c.args.at m))
    (constant-place (constants_at constants c.args.at) c.in-Constant.name c.index.result place))

pub returns-in-Constant-clause-cyclic : goal.returns-in-Constant-clause-cyclic
returns-in-Constant-clause-cyclic c =
    let constants = c.args.self.now.constants in
    let place = rw (c.bytes.ensures, ap (λ d. d.constants) c.self.view_is) at c.index.ensures in
    let m = members.Constant c.in-Constant.name in
    rw c.in-Constant.is
    (subst (λ test. IsMemberAt (map variants.Constant (constants_at constants c.args.at)) m test c.index.result) (sym (member-Cyclic constants c.args.at m))
    (constant-place (constants_at constants c.args.at) c.in-Constant.name c.index.result place))

pub returns-in_default : goal.returns-in_default
returns-in_default c = record {
  listed = member-Listed c.args.self.now.constants c.args.at c.args.member.now ∙ no-constant c.args.self.now.constants c.args.at c.args.member.now c.in_default.not-Constant;
  cyclic = member-Cyclic c.args.self.now.constants c.args.at c.args.member.now ∙ no-constant c.args.self.now.constants c.args.at c.args.member.now c.in_default.not-Constant;
}
