use Rattle.std.proofs.Common.{IfOk, ◌≡◌, ap, sym, subst, ◌∙◌}
use Rattle.std.specs.Option.{option_map}
use Rattle.net_elements.specs.declared.roles.Role.TheVariants as role
use Rattle.pnml_read.specs.Nets.{given, sort_or_dot}
use Rattle.pnml_read.proofs.Given.{named_given}
use Rattle.pnml_read.proofs.labels.place_sort_of.Goals as goal

pub returns-in-Some : goal.returns-in-Some
returns-in-Some c =
    subst (λ o. IfOk c.sort_of.result (λ s. s ≡ sort_or_dot o)) (sym (named_given role.PlaceType c.args.children.now ∙ ap (option_map given) c.in-Some.ensures)) c.sort_of.ensures

pub returns-in-None : goal.returns-in-None
returns-in-None c = sym (ap sort_or_dot (named_given role.PlaceType c.args.children.now ∙ ap (option_map given) c.in-None.ensures))
