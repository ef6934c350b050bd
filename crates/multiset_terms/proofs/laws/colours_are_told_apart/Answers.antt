use Rattle.std.proofs.Common.{ap, sym, ◌∙◌}
use Rattle.multiset_terms.specs.Values.{is_same}
use Rattle.multiset_terms.proofs.SameColour.{told, own}
use Rattle.multiset_terms.proofs.laws.colours_are_told_apart.Goals as goal

pub returns : goal.returns
returns c = λ a b. (told a b, λ same. ap (is_same a) (sym same) ∙ own a)
