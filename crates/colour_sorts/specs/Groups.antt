-- Names in groups, as parts of one list of names.
use Rattle.std.specs.Prelude.{◌≡◌, ℕ, ◌+◌, ◌<◌, ◌≤◌, ◌^◌, All, List, flat_map, length, map, take, drop, Some, slice_get}
use Rattle.std.specs.List.{IsDistinct}
use Rattle.std.specs.Str.{bytes_eq}
use Rattle.colour_sorts.specs.declared.groups.Group.{Group}
use Rattle.net_model.specs.Ids.{names_in}

-- the names of a group
abbrev pub names_of : List (List ℕ) → Group → List (List ℕ)
names_of names g = take g.count (drop g.first names)

abbrev pub is_part : List (List ℕ) → Group → Type 0
is_part names g = g.first + g.count ≤ length names

-- a number is in the group
abbrev pub HasNumber : Group → ℕ → Type 0
HasNumber g number = (g.first ≤ number) × (number < g.first + g.count)

-- each number has the position of the one group that it is in
pub record AreOwned (groups : List Group) (owners : List ℕ) : Type 0 where
  pub known : (number at : ℕ) (g : Group) → slice_get groups at ≡ Some g → HasNumber g number → slice_get owners number ≡ Some at
  pub owned : (number at : ℕ) → slice_get owners number ≡ Some at → (g : Group) × (slice_get groups at ≡ Some g) × HasNumber g number

-- distinct names in groups, one group after the other, each number with the position of its group
abbrev pub IsGrouped : List (List ℕ) → List Group → List ℕ → Type 0
IsGrouped names groups owners =
    IsDistinct bytes_eq names × All (is_part names) groups × (length names < 2 ^ 32)
    × AreOwned groups owners × (length owners ≡ length names) × (names ≡ names_in (map (names_of names) groups))
