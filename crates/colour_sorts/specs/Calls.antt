-- What the calls on a domain answer.
use Rattle.std.specs.Prelude.{◌≡◌, ℕ, ◌<◌, ⊤, List, [], Option, None, Some, Result, Ok, Err, length, map, position, slice_index_or}
use Rattle.std.specs.List.{list_any, position_or_len}
use Rattle.std.specs.Str.{bytes_eq}
use Rattle.colour_sorts.specs.declared.rules.ResolveFault.{ResolveFault}
use Rattle.colour_sorts.specs.declared.rules.ResolveFault.TheVariants as refusal
use Rattle.colour_sorts.specs.declared.rules.Rule.TheVariants as rule
use Rattle.colour_sorts.specs.declared.rules.SortFault.{SortFault}
use Rattle.colour_sorts.specs.declared.rules.SortFault.TheVariants as fault
use Rattle.colour_sorts.specs.declared.sorts.Declared.{Declared}
use Rattle.colour_sorts.specs.declared.sorts.Declared.TheVariants as declared
use Rattle.colour_sorts.specs.declared.sorts.Sort.{Sort}
use Rattle.colour_sorts.specs.declared.sorts.Sort.TheVariants as sort
use Rattle.net_model.specs.declared.sorts.NamedSort.{NamedSort}
use Rattle.net_model.specs.declared.sorts.Partition.{Partition}
use Rattle.net_model.specs.declared.sorts.SortTerm.{SortTerm}
use Rattle.net_model.specs.declared.sorts.SortTerm.TheVariants as term
use Rattle.colour_sorts.specs.Colours.{constants_at}
use Rattle.colour_sorts.specs.Naming.{at_place, broken_rule, sort_of}
use Rattle.colour_sorts.specs.declared.domains.Division.{Division}
use Rattle.colour_sorts.specs.Domain.{Domain, blocks_of, first_fault, partition_fault, partition_sort_of}
use Rattle.colour_sorts.specs.Held.{blocks_of_division, sort_of_division}

-- the sort that a term stands for, or the first rule that it breaks
abbrev pub IsResolved : List NamedSort → SortTerm → Result Sort ResolveFault → Type 0
IsResolved sorts t (Ok s) = (broken_rule sorts 0 t ≡ None) × (s ≡ sort_of sorts 0 t)
IsResolved sorts t (Err (refusal.Bad broken)) = broken_rule sorts 0 t ≡ Some broken
IsResolved sorts t (Err refusal.Memory) = ⊤

-- the first fault of declarations
abbrev pub IsRefused : List NamedSort → List Partition → SortFault → Type 0
IsRefused sorts partitions (fault.Bad id broken) = first_fault sorts partitions ≡ Some (id, broken)
IsRefused sorts partitions fault.Memory = ⊤

-- the group that has a name
abbrev pub group_of : List (List (List ℕ)) → List ℕ → Option ℕ
group_of groups name = position (list_any (bytes_eq name)) groups

-- the place of a name in a group
abbrev pub place_in : List (List (List ℕ)) → ℕ → List ℕ → ℕ
place_in groups at name = position_or_len (bytes_eq name) (constants_at groups at)

abbrev pub sort_at : List Sort → ℕ → Sort
sort_at sorts at = slice_index_or sorts at sort.Dot

-- for each colour of a partition's sort the block that has it
abbrev pub blocks_at : Domain → ℕ → List ℕ
blocks_at domain at = slice_index_or domain.blocks at []

-- what an id declares: a constant of an enumeration, else an element of a partition
abbrev pub element_in : Domain → List ℕ → Option Declared
element_in domain id = at_place None (λ at. Some (declared.Block at (place_in domain.elements at id))) (group_of domain.elements id)

abbrev pub declared_in : Domain → List ℕ → Option Declared
declared_in domain id = at_place (element_in domain id) (λ at. Some (declared.Constant (sort_at domain.sorts at) (place_in domain.constants at id))) (group_of domain.constants id)

-- the sorts and blocks of partitions that break no rule
pub record AreDivided (sorts : List NamedSort) (partitions : List Partition) (divisions : List Division) : Type 0 where
  pub sound : partition_fault sorts partitions ≡ None
  pub sorts_match : map sort_of_division divisions ≡ map (partition_sort_of sorts) partitions
  pub blocks_match : map blocks_of_division divisions ≡ map (blocks_of sorts) partitions

-- the named sort at a position has the sort that a name stands for, or none has where the name is unknown
abbrev pub IsNamedSort : Domain → List NamedSort → List ℕ → Option ℕ → Type 0
IsNamedSort domain sorts id None = broken_rule sorts 0 (term.Named id) ≡ Some rule.UnknownSort
IsNamedSort domain sorts id (Some at) = (at < length domain.ids) × (broken_rule sorts 0 (term.Named id) ≡ None) × (sort_at domain.sorts at ≡ sort_of sorts 0 (term.Named id))
