use Rattle.std.proofs.Common.{refl, sym, ap, subst}
use Rattle.colour_sorts.specs.Calls.{IsNamedSort}
use Rattle.colour_sorts.specs.Naming.{place_of}
use Rattle.colour_sorts.proofs.Lent.{named-sort}
use Rattle.colour_sorts.proofs.laws.named_sorts_are_resolved.Goals as goal

pub returns : goal.returns
returns c = λ domain sorts partitions id stands.
    subst (λ ids. IsNamedSort domain sorts id (place_of ids id)) (sym (ap (λ d. d.ids) stands.is)) (named-sort domain sorts partitions id stands (place_of _ id) refl)
