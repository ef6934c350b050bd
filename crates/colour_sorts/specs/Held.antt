-- What is held of the named sorts, and of the partitions.
use Rattle.std.specs.Prelude.{◌≡◌, ℕ, ◌<◌, ◌⊎◌, true, List, length, Option, None, Some, IfSome, slice_get}
use Rattle.colour_sorts.specs.declared.domains.Division.{Division}
use Rattle.colour_sorts.specs.declared.facts.Facts.{Facts}
use Rattle.colour_sorts.specs.declared.facts.Mark.{Mark}
use Rattle.colour_sorts.specs.declared.facts.Mark.TheVariants.{Done}
use Rattle.colour_sorts.specs.declared.sorts.Sort.{Sort}
use Rattle.colour_sorts.specs.declared.sorts.Sort.TheVariants as sort
use Rattle.colour_sorts.specs.Colours.{constants_at}
use Rattle.colour_sorts.specs.Judging.{AreCapped, IsFacts}

-- the sort of a number among sorts
abbrev pub sort_numbered : List Sort → Option ℕ → Option Sort
sort_numbered sorts None = None
sort_numbered sorts (Some number) = slice_get sorts number

abbrev pub IsNumber : List Sort → Option ℕ → Type 0
IsNumber sorts number = IfSome number (λ n. n < length sorts)

-- the sort of a named sort: all are there
abbrev pub sort_held : Option Sort → Sort
sort_held None = sort.Dot
sort_held (Some s) = s

abbrev pub sort_of_division : Division → Sort
sort_of_division d = d.sort

abbrev pub blocks_of_division : Division → List ℕ
blocks_of_division d = d.blocks

-- a sort with all its names known, and its facts
pub record IsHeld (constants : List (List (List ℕ))) (s : Sort) (f : Facts) : Type 0 where
  pub known : f.is_known ≡ true
  pub capped : AreCapped f
  pub tests : IsFacts constants s f

-- an enumeration that the named sort at a position declares
abbrev pub IsEnumeration : Sort → ℕ → Type 0
IsEnumeration s at = (s ≡ sort.Listed at) ⊎ (s ≡ sort.Cyclic at)

-- each named sort has its sort and the facts of it
pub record AreHeld (constants : List (List (List ℕ))) (sorts : List (Option Sort)) (marks : List Mark) : Type 0 where
  pub as_long : length marks ≡ length sorts
  pub held : (at : ℕ) → at < length sorts → (s : Sort) × (f : Facts) × (slice_get sorts at ≡ Some (Some s)) × (slice_get marks at ≡ Some (Done f)) × IsHeld constants s f
  pub listed : (at : ℕ) → 0 < length (constants_at constants at) → (s : Sort) × (slice_get sorts at ≡ Some (Some s)) × IsEnumeration s at
