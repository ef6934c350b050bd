-- What terms and guards stand over: the declared sorts, partitions and variables.
use Rattle.std.specs.Prelude.{ℕ, List}
use Rattle.net_model.specs.declared.sorts.NamedSort.{NamedSort}
use Rattle.net_model.specs.declared.sorts.Partition.{Partition}
use Rattle.colour_sorts.specs.declared.sorts.Sort.{Sort}

-- the ids of the variables and the sort of each
pub record Declarations : Type 0 where
  pub ids : List (List ℕ)
  pub sorts : List Sort

-- all that terms stand over, as it is written
pub record Context : Type 0 where
  pub sorts : List NamedSort
  pub partitions : List Partition
  pub variables : Declarations
