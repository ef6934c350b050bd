use Rattle.std.proofs.Common.{ap, ◌∙◌, codes}
use Rattle.net_model.specs.declared.terms.Term.TheVariants as term
use Rattle.pnml_read.specs.Nets.{text_in}
use Rattle.pnml_read.proofs.terms.+terms.Goals as goal

pub term_as-returns-in_ok-name_in-in-Variable : goal.term_as-returns-in_ok-name_in-in-Variable
term_as-returns-in_ok-name_in-in-Variable t c =
    rw c.in-Variable.is (ap term.Variable (c.in_ok-name_in-in-Variable.ensures ∙ ap (text_in (codes "refvariable")) c.as_slice-attributes.ensures))

pub term_as-returns-in_ok-name_in-in-UserOperator : goal.term_as-returns-in_ok-name_in-in-UserOperator
term_as-returns-in_ok-name_in-in-UserOperator t c =
    rw c.in-UserOperator.is (ap term.Operator (c.in_ok-name_in-in-UserOperator.ensures ∙ ap (text_in (codes "declaration")) c.as_slice-attributes.ensures))
