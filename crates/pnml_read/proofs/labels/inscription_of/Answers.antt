use Rattle.std.proofs.Common.{ap, subst, IfOk, ◌≡◌, ◌∙◌}
use Rattle.net_elements.specs.declared.roles.Role.TheVariants as role
use Rattle.net_model.specs.declared.nets.Label.TheVariants as label
use Rattle.pnml_read.specs.Nets.{multiset_or_absent, number_or}
use Rattle.pnml_read.proofs.Given.{found_given}
use Rattle.pnml_read.proofs.labels.inscription_of.Goals as goal

pub returns-in-Pt : goal.returns-in-Pt
returns-in-Pt c =
    rw c.in-Pt.is (ap label.Count (c.number_or.ensures ∙ ap (number_or 1) (found_given role.Inscription c.args.children.now c.named.result c.named.ensures)))

pub returns-in-Symmetric : goal.returns-in-Symmetric
returns-in-Symmetric c =
    rw c.in-Symmetric.is
    (subst (λ o. IfOk c.multiset_or_absent.result (λ it. it ≡ multiset_or_absent o))
    (found_given role.HlInscription c.args.children.now c.named-in-Symmetric.result c.named-in-Symmetric.ensures)
    c.multiset_or_absent.ensures)
