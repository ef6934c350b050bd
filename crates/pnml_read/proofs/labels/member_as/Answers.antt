use Rattle.std.proofs.Common.{ap, ◌∙◌, codes}
use Rattle.net_model.specs.declared.sorts.Member.TheVariants as member
use Rattle.pnml_read.specs.Nets.{text_in}
use Rattle.pnml_read.proofs.labels.member_as.Goals as goal

pub returns-in_ok-name_in-in-UserOperator : goal.returns-in_ok-name_in-in-UserOperator
returns-in_ok-name_in-in-UserOperator c =
    rw c.in-UserOperator.is (ap member.Constant (c.in_ok-name_in-in-UserOperator.ensures ∙ ap (text_in (codes "declaration")) c.as_slice-attributes.ensures))
