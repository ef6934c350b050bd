use Rattle.std.proofs.Common.{ap, ◌∙◌, codes}
use Rattle.net_model.specs.declared.sorts.SortTerm.TheVariants as sort
use Rattle.pnml_read.specs.Nets.{text_in}
use Rattle.pnml_read.proofs.sorts.+sorts.Goals as goal

pub sort_as-returns-in_ok-name_in-in-UserSort : goal.sort_as-returns-in_ok-name_in-in-UserSort
sort_as-returns-in_ok-name_in-in-UserSort t c =
    rw c.in-UserSort.is (ap sort.Named (c.in_ok-name_in-in-UserSort.ensures ∙ ap (text_in (codes "declaration")) c.as_slice-attributes.ensures))
