-- What the answers of declared sorts and partitions say of a context.
use Rattle.std.proofs.Common.{◌≡◌, ℕ, ◌<◌, ◌≤◌, ◌^◌, Bool, true, false, List, [], ◌∷◌, length, sym, ap, ◌∙◌, subst, Option, None, Some}
use Rattle.std.specs.Prelude.{Err, not, if◌then◌else◌}
use Rattle.std.specs.Str.{bytes_eq}
use Rattle.std.proofs.lemmas.List.Quantifiers.{position-Some}
use Rattle.name_tables.proofs.Places.{position-map}
use Rattle.colour_sorts.specs.declared.rules.Rule.{Rule}
use Rattle.colour_sorts.specs.declared.rules.Rule.TheVariants as rule
use Rattle.colour_sorts.specs.declared.sorts.Sort.{Sort}
use Rattle.net_model.specs.declared.sorts.NamedSort.{NamedSort}
use Rattle.net_model.specs.declared.sorts.Partition.{Partition}
use Rattle.net_model.specs.declared.sorts.SortTerm.{SortTerm}
use Rattle.colour_sorts.specs.Calls.{sort_at}
use Rattle.colour_sorts.specs.Colours.{size}
use Rattle.colour_sorts.specs.Domain.{Domain}
use Rattle.colour_sorts.specs.Domain as domains
use Rattle.colour_sorts.specs.Limits.{broken_in}
use Rattle.net_model.specs.Ids.{constants_of}
use Rattle.colour_sorts.specs.Naming.{broken_rule, has_end, is_known, place_of, sort_of}
use Rattle.colour_sorts.proofs.Sizes.{unbroken-size}
use Rattle.multiset_terms.specs.declared.parts.Part.{Part}
use Rattle.net_model.specs.declared.terms.Term.{Term}
use Rattle.net_model.specs.declared.terms.Term.TheVariants as term
use Rattle.multiset_terms.specs.Context.{Context, Declarations}
use Rattle.multiset_terms.specs.Parts.{HasSize, IsPart, IsScope}
use Rattle.multiset_terms.specs.Typing.{at_place, at_root, block_kind_at, judged, partition_place, partition_sort, sort_named}
use Rattle.multiset_terms.proofs.LeafMakers.{has-size}
use Rattle.multiset_terms.proofs.Makers.{one, over-block}
use Rattle.multiset_terms.proofs.Pieces.{verdict-node}

-- a sort that breaks no rule
no-rule : (known ends : Bool) (others : Option Rule) → (if not known then Some rule.UnknownSort else if not ends then Some rule.SortCircle else others) ≡ None → others ≡ None
no-rule true true others h = h
no-rule true false others h = absurd (cc)
no-rule false ends others h = absurd (cc)

pub unbroken : (sorts : List NamedSort) (at : ℕ) (t : SortTerm) → broken_rule sorts at t ≡ None → broken_in (constants_of sorts) (sort_of sorts at t) ≡ None
unbroken sorts at t h = no-rule (is_known sorts t) (has_end sorts t) (broken_in (constants_of sorts) (sort_of sorts at t)) h

pub found-size : (d : Domain) (sorts : List NamedSort) (partitions : List Partition) (t : SortTerm) (s : Sort) → domains.StandsFor d sorts partitions → broken_rule sorts 0 t ≡ None → s ≡ sort_of sorts 0 t
    → (0 < size d.constants s) × (size d.constants s ≤ 2 ^ 20)
found-size d sorts partitions t s stands none is =
    subst (λ n. (0 < n) × (n ≤ 2 ^ 20)) (sym (ap (λ x. size x.constants s) stands.is ∙ ap (size (constants_of sorts)) is))
    (unbroken-size (constants_of sorts) (sort_of sorts 0 t) (unbroken sorts 0 t none))

pub found-has : (ctx : Context) (d : Domain) (v : Declarations) (t : SortTerm) (s : Sort) (n : ℕ) → IsScope ctx d v → broken_rule ctx.sorts 0 t ≡ None → s ≡ sort_of ctx.sorts 0 t → n ≡ size d.constants s
    → HasSize ctx (sort_named ctx t) n
found-has ctx d v t s n scope none is counted =
    let sized = found-size d ctx.sorts ctx.partitions t s scope.domain none is in
    has-size ctx d (sort_named ctx t) n s is scope.domain.is counted sized.0 sized.1

-- partitions
pub partition-here : (ctx : Context) (d : Domain) (v : Declarations) (id : List ℕ) → IsScope ctx d v → place_of d.partition_ids id ≡ partition_place ctx id
partition-here ctx d v id scope = ap (λ x. place_of x.partition_ids id) scope.domain.is ∙ position-map (λ p. p.id) (bytes_eq id) ctx.partitions

pub partition-within : (ids : List (List ℕ)) (id : List ℕ) (at : ℕ) → place_of ids id ≡ Some at → at < length ids
partition-within ids id at found = (position-Some (bytes_eq id) ids at [] found).0

pub partition-sort : (ctx : Context) (d : Domain) (v : Declarations) (at : ℕ) → IsScope ctx d v → sort_at d.partition_sorts at ≡ partition_sort ctx at
partition-sort ctx d v at scope = ap (λ x. sort_at x.partition_sorts at) scope.domain.is

pub unknown-partition : (ctx : Context) (marking : Bool) (id : List ℕ) (t : Term) (p : Part) → partition_place ctx id ≡ None → IsPart ctx marking t p
    → (judged ctx marking (term.BlockOf id t)).verdict ≡ Err (0, rule.UnknownPartition)
unknown-partition ctx marking id t p none known =
    let over = over-block ctx marking id t in
    verdict-node ctx marking (term.BlockOf id t) _ 1 1 (one t p) (record { judges = over.judges; weighs = over.weighs }) (known, tt)
    ∙ ap (λ place. at_root (at_place (Err rule.UnknownPartition) (λ at. block_kind_at ctx at (p.kind ∷ [])) place)) none
