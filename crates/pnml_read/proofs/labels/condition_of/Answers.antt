use Rattle.std.proofs.Common.{Some, ap, sym, ◌∙◌}
use Rattle.std.specs.Option.{option_map}
use Rattle.net_elements.specs.declared.roles.Role.TheVariants as role
use Rattle.pnml_read.specs.Nets.{given, guard_or_none}
use Rattle.pnml_read.proofs.Given.{named_given}
use Rattle.pnml_read.proofs.labels.condition_of.Goals as goal

pub returns-in_ok-guard_of-in-Some : goal.returns-in_ok-guard_of-in-Some
returns-in_ok-guard_of-in-Some c =
    ap Some c.in_ok-guard_of-in-Some.ensures ∙ sym (ap guard_or_none (named_given role.Condition c.args.children.now ∙ ap (option_map given) c.in-Some.ensures))

pub returns-in-None : goal.returns-in-None
returns-in-None c = sym (ap guard_or_none (named_given role.Condition c.args.children.now ∙ ap (option_map given) c.in-None.ensures))
