-- The sort of a place, with its colours.
use Rattle.std.proofs.Common.{◌≡◌, ◌<◌, ◌≤◌, ◌^◌, refl, sym, subst, List, None}
use Rattle.colour_sorts.specs.Colours.{size}
use Rattle.colour_sorts.specs.Domain.{Domain}
use Rattle.colour_sorts.specs.Domain as domains
use Rattle.colour_sorts.specs.Naming.{broken_rule}
use Rattle.net_model.specs.declared.sorts.SortTerm.{SortTerm}
use Rattle.multiset_terms.specs.Context.{Context}
use Rattle.multiset_terms.specs.Typing.{sort_named}
use Rattle.multiset_terms.proofs.Asked.{found-size}
use Rattle.net_typing.specs.declared.sorts.SharedSort.{SharedSort}
use Rattle.net_typing.specs.Standing.{IsSortOf, shared}

pub sort-found : (ctx : Context) (d : Domain) (t : SortTerm) (it : SharedSort) → domains.StandsFor d ctx.sorts ctx.partitions → broken_rule ctx.sorts 0 t ≡ None → shared d it ≡ sort_named ctx t → IsSortOf ctx d t it
sort-found ctx d t it stands none is =
    let sized = found-size d ctx.sorts ctx.partitions t (sort_named ctx t) stands none refl in
    record { unbroken = none; is = is; some = sized.0; limit = sized.1 }
