-- What declarations of sorts and partitions stand for.
use Rattle.std.specs.Prelude.{◌≡◌, ℕ, ◌+◌, ◌-◌, ◌<◌, ◌^◌, true, List, [], ◌∷◌, length, map, Option, None, Some, slice_index_or}
use Rattle.std.specs.List.{IsDistinct}
use Rattle.std.specs.Str.{bytes_eq}
use Rattle.colour_sorts.specs.declared.rules.Rule.{Rule}
use Rattle.colour_sorts.specs.declared.breaking.BrokenSort.{BrokenSort}
use Rattle.net_model.specs.declared.sorts.NamedSort.{NamedSort}
use Rattle.net_model.specs.declared.sorts.Partition.{Partition}
use Rattle.colour_sorts.specs.declared.sorts.Sort.{Sort}
use Rattle.colour_sorts.specs.Colours.{colours}
use Rattle.net_model.specs.Ids.{constants_of, element_ids, ids_of, names_in}
use Rattle.colour_sorts.specs.Naming.{broken_rule, ends_within, enough, is_known_within, place_of, sort_of, sort_within, term_at}
use Rattle.colour_sorts.specs.Dividing.{block_with, broken_partition}

-- the named sorts: their ids, the constants that each declares, and the sorts that they stand for; and the partitions: their ids,
-- the ids of the elements of each, its sort, and for each colour of its sort the position of the element that has it
pub record Domain : Type 0 where
  pub ids : List (List ℕ)
  pub constants : List (List (List ℕ))
  pub sorts : List Sort
  pub partition_ids : List (List ℕ)
  pub elements : List (List (List ℕ))
  pub partition_sorts : List Sort
  pub blocks : List (List ℕ)

-- the sorts of named sorts that stand from a position on
abbrev pub sorts_from : List NamedSort → ℕ → List NamedSort → List Sort
sorts_from sorts at [] = []
sorts_from sorts at (s ∷ more) = sort_of sorts at s.sort ∷ sorts_from sorts (at + 1) more

abbrev pub partition_sort_of : List NamedSort → Partition → Sort
partition_sort_of sorts p = sort_of sorts 0 p.sort

abbrev pub blocks_of : List NamedSort → Partition → List ℕ
blocks_of sorts p = map (block_with p.elements) (colours (constants_of sorts) (partition_sort_of sorts p))

abbrev pub domain_of : List NamedSort → List Partition → Domain
domain_of sorts partitions = record {
  ids = ids_of sorts;
  constants = constants_of sorts;
  sorts = sorts_from sorts 0 sorts;
  partition_ids = map (λ p. p.id) partitions;
  elements = map element_ids partitions;
  partition_sorts = map (partition_sort_of sorts) partitions;
  blocks = map (blocks_of sorts) partitions;
}

-- with these partitions: their ids, the ids of their elements, their sorts and their blocks
abbrev pub with_partitions : Domain → List (List ℕ) → List (List (List ℕ)) → List Sort → List (List ℕ) → Domain
with_partitions d ids elements sorts blocks = record {
  ids = d.ids;
  constants = d.constants;
  sorts = d.sorts;
  partition_ids = ids;
  elements = elements;
  partition_sorts = sorts;
  blocks = blocks;
}

-- what breaks a rule, with the first rule that it breaks
abbrev pub Fault : Type 0
Fault = List ℕ × Rule

abbrev pub fault_at : List ℕ → Option Rule → Option Fault
fault_at id None = None
fault_at id (Some broken) = Some (id, broken)

abbrev pub before : Option Fault → Option Fault → Option Fault
before (Some fault) _ = Some fault
before None more = more

-- the first named sort from a position on that breaks a rule
abbrev pub sort_fault_from : List NamedSort → ℕ → List NamedSort → Option Fault
sort_fault_from sorts at [] = None
sort_fault_from sorts at (s ∷ more) = before (fault_at s.id (broken_rule sorts at s.sort)) (sort_fault_from sorts (at + 1) more)

-- the first partition that breaks a rule
abbrev pub partition_fault : List NamedSort → List Partition → Option Fault
partition_fault sorts [] = None
partition_fault sorts (p ∷ more) = before (fault_at p.id (broken_partition sorts p)) (partition_fault sorts more)

-- the first named sort, then the first partition
abbrev pub first_fault : List NamedSort → List Partition → Option Fault
first_fault sorts partitions = before (sort_fault_from sorts 0 sorts) (partition_fault sorts partitions)

-- the same by the position of the named sort
abbrev pub fault_of : List NamedSort → Option BrokenSort → Option Fault
fault_of sorts None = None
fault_of sorts (Some broken) = Some (slice_index_or (ids_of sorts) broken.at [], broken.rule)

-- a domain stands for declarations that break no rule; their names lead to their ends in as many steps as there are named sorts
pub record StandsFor (domain : Domain) (sorts : List NamedSort) (partitions : List Partition) : Type 0 where
  pub is : domain ≡ domain_of sorts partitions
  pub sound : first_fault sorts partitions ≡ None
  pub ends : (id : List ℕ) → ends_within sorts (enough sorts) id ≡ true
  pub known : (id : List ℕ) (at : ℕ) → place_of (ids_of sorts) id ≡ Some at → is_known_within sorts (enough sorts) id ≡ true
  pub named : (id : List ℕ) (at : ℕ) → place_of (ids_of sorts) id ≡ Some at → sort_within sorts (enough sorts) id ≡ sort_of sorts at (term_at sorts at)
