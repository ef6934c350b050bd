-- What the calls on declarations that were built may ask.
use Rattle.std.proofs.Common.{◌≡◌, ℕ, ◌<◌, ◌≤◌, ◌^◌, List, [], length, sym, subst, Some}
use Rattle.std.proofs.lemmas.List.Quantifiers.{position-Some}
use Rattle.std.specs.Prelude.{IfOk, Result, Ok, Err}
use Rattle.std.specs.Str.{bytes_eq}
use Rattle.colour_sorts.specs.declared.rules.ResolveFault.{ResolveFault}
use Rattle.colour_sorts.specs.declared.sorts.Sort.{Sort}
use Rattle.net_model.specs.declared.sorts.NamedSort.{NamedSort}
use Rattle.net_model.specs.declared.sorts.Partition.{Partition}
use Rattle.net_model.specs.declared.sorts.SortTerm.{SortTerm}
use Rattle.colour_sorts.specs.Calls.{IsResolved, blocks_at, sort_at}
use Rattle.colour_sorts.specs.Colours.{size}
use Rattle.colour_sorts.specs.Domain.{Domain, StandsFor}
use Rattle.colour_sorts.specs.Naming.{place_of}
use Rattle.colour_sorts.proofs.Divided.{divided}
use Rattle.colour_sorts.proofs.Partitioned.{resolved-size}

-- from 1 to 2^20 colours
abbrev pub HasSize : Domain → Sort → Type 0
HasSize d s = (0 < size d.constants s) × (size d.constants s ≤ 2 ^ 20)

pub resolved : (d e : Domain) (t : SortTerm) (r : Result Sort ResolveFault) → d ≡ e → ((sorts : List NamedSort) × (ps : List Partition) × StandsFor d sorts ps)
    → ((sorts : List NamedSort) (ps : List Partition) → StandsFor d sorts ps → IsResolved sorts t r) → IfOk r (HasSize e)
resolved d e t (Ok s) is stands known =
    let both = known stands.0 stands.1 stands.2 in
    subst (λ d. HasSize d s) is (resolved-size d stands.0 stands.1 t s stands.2 both.0 both.1)
resolved d e t (Err f) is stands known = tt

pub if-first : {A B : Type 0} (P Q : A → Type 0) (r : Result A B) → IfOk r (λ x. P x × Q x) → IfOk r P
if-first P Q (Ok x) both = both.0
if-first P Q (Err f) both = tt

pub if-second : {A B : Type 0} (P Q : A → Type 0) (r : Result A B) → IfOk r (λ x. P x × Q x) → IfOk r Q
if-second P Q (Ok x) both = both.1
if-second P Q (Err f) both = tt

-- the partition that was found
pub found : (d : Domain) (id : List ℕ) (at : ℕ) → ((sorts : List NamedSort) × (ps : List Partition) × StandsFor d sorts ps) → Some at ≡ place_of d.partition_ids id
    → HasSize d (sort_at d.partition_sorts at) × (length (blocks_at d at) ≡ size d.constants (sort_at d.partition_sorts at))
found d id at stands e =
    let all = divided d stands.0 stands.1 at stands.2 (position-Some (bytes_eq id) d.partition_ids at [] (sym e)).0 in
    ((all.0, all.1), all.2)
