-- The sorts of partitions that were built.
use Rattle.std.proofs.Common.{◌≡◌, ℕ, zero, suc, ◌<◌, ◌≤◌, ◌^◌, List, [], ◌∷◌, map, get_or, length, refl, sym, ap, arith, subst, Some, None, Option}
use Rattle.std.proofs.lemmas.List.{get_or-map, length-map}
use Rattle.colour_sorts.specs.declared.rules.Rule.{Rule}
use Rattle.net_model.specs.declared.sorts.NamedSort.{NamedSort}
use Rattle.net_model.specs.declared.sorts.Partition.{Partition}
use Rattle.net_model.specs.declared.sorts.SortTerm.TheVariants as term
use Rattle.colour_sorts.specs.declared.sorts.Sort.TheVariants as sort
use Rattle.colour_sorts.specs.Calls.{blocks_at, sort_at}
use Rattle.colour_sorts.specs.Colours.{colours, size}
use Rattle.colour_sorts.specs.Dividing.{after, block_with, broken_blocks, broken_partition}
use Rattle.colour_sorts.specs.Domain.{Domain, Fault, StandsFor, before, blocks_of, fault_at, partition_fault, partition_sort_of, sort_fault_from}
use Rattle.net_model.specs.Ids.{constants_of}
use Rattle.colour_sorts.specs.Naming.{broken_rule, sort_of}
use Rattle.colour_sorts.proofs.Partitioned.{unbroken-sort}
use Rattle.colour_sorts.proofs.PlacesIn.{none-is-some}
use Rattle.colour_sorts.proofs.Sizes.{unbroken-size}

behind : (o m : Option Fault) → before o m ≡ None → m ≡ None
behind None m e = e
behind (Some f) m e = absurd (none-is-some f (sym e))

no-fault : (id : List ℕ) (o : Option Rule) (m : Option Fault) → before (fault_at id o) m ≡ None → o ≡ None
no-fault id None m e = refl
no-fault id (Some r) m e = absurd (none-is-some (id, r) (sym e))

first-of : (a b : Option Rule) → after a b ≡ None → a ≡ None
first-of None b e = refl
first-of (Some r) b e = absurd (none-is-some r (sym e))

-- where no partition breaks a rule, each breaks none
each-unbroken : (sorts : List NamedSort) (ps : List Partition) (i : ℕ) (d : Partition) → partition_fault sorts ps ≡ None → i < length ps → broken_partition sorts (get_or ps i d) ≡ None
each-unbroken sorts [] i d e within = absurd (omega (arith, within))
each-unbroken sorts (p ∷ ps) zero d e within = no-fault p.id (broken_partition sorts p) (partition_fault sorts ps) e
each-unbroken sorts (p ∷ ps) (suc i) d e within = each-unbroken sorts ps i d (behind (fault_at p.id (broken_partition sorts p)) (partition_fault sorts ps) e) (omega (arith, within))

nothing : Partition
nothing = record { id = []; sort = term.Dot; elements = [] }

-- a partition's sort has colours, not too many, and a block for each
pub divided : (d : Domain) (sorts : List NamedSort) (ps : List Partition) (at : ℕ) → StandsFor d sorts ps → at < length d.partition_ids
    → (0 < size d.constants (sort_at d.partition_sorts at)) × (size d.constants (sort_at d.partition_sorts at) ≤ 2 ^ 20) × (length (blocks_at d at) ≡ size d.constants (sort_at d.partition_sorts at))
divided d sorts ps at stands within =
    subst (λ d. (0 < size d.constants (sort_at d.partition_sorts at)) × (size d.constants (sort_at d.partition_sorts at) ≤ 2 ^ 20) × (length (blocks_at d at) ≡ size d.constants (sort_at d.partition_sorts at)))
    (sym stands.is) (rw (here, there) (
      bounds.0,
      bounds.1,
      length-map (colours (constants_of sorts) (partition_sort_of sorts p)) (block_with p.elements),
    ))
  where
    p : Partition
    p = get_or ps at nothing

    inside : at < length ps
    inside = omega (arith, within, ap (λ d. length d.partition_ids) stands.is, length-map ps (λ p. p.id))

    here : sort_at (map (partition_sort_of sorts) ps) at ≡ partition_sort_of sorts p
    here = get_or-map (partition_sort_of sorts) ps at nothing sort.Dot inside

    there : get_or (map (blocks_of sorts) ps) at [] ≡ blocks_of sorts p
    there = get_or-map (blocks_of sorts) ps at nothing [] inside

    bounds : (0 < size (constants_of sorts) (partition_sort_of sorts p)) × (size (constants_of sorts) (partition_sort_of sorts p) ≤ 2 ^ 20)
    bounds =
        let unbroken = each-unbroken sorts ps at nothing (behind (sort_fault_from sorts 0 sorts) (partition_fault sorts ps) stands.sound) inside in
        unbroken-size (constants_of sorts) (partition_sort_of sorts p) (unbroken-sort sorts p.sort (first-of (broken_rule sorts 0 p.sort) (broken_blocks (constants_of sorts) (sort_of sorts 0 p.sort) p.elements) unbroken))
