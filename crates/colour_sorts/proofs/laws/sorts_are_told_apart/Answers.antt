use Rattle.std.proofs.Common.{ap, sym, ◌∙◌}
use Rattle.colour_sorts.specs.Comparing.{is_same_sort}
use Rattle.colour_sorts.proofs.SameSort.{sort-told, sort-own}
use Rattle.colour_sorts.proofs.laws.sorts_are_told_apart.Goals as goal

pub returns : goal.returns
returns c = λ a b. (sort-told a b, λ same. ap (is_same_sort a) (sym same) ∙ sort-own a)
