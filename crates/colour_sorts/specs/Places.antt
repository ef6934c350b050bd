-- Where a value stands in a list, and the step to the next place of a list that goes round.
use Rattle.std.specs.Prelude.{◌≡◌, ℕ, ◌+◌, ◌-◌, ◌==◌, List, Option, Some, slice_get, IfSome, if◌then◌else◌}
use Rattle.colour_sorts.specs.declared.sorts.Sort.{Sort}
use Rattle.colour_sorts.specs.declared.sorts.Sort.TheVariants as sort

-- the place is the only one of the value in the list, and there is none only where the value isn't there
pub record IsPlace {X : Type 0} (xs : List X) (x : X) (place : Option ℕ) : Type 0 where
  pub found : IfSome place (λ at. slice_get xs at ≡ Some x)
  pub only : (at : ℕ) → slice_get xs at ≡ Some x → place ≡ Some at

-- a cyclic enumeration
abbrev pub IsCyclic : Sort → Type 0
IsCyclic s = (at : ℕ) × (s ≡ sort.Cyclic at)

-- the next of so many places, the first one after the last
abbrev pub next_of : ℕ → ℕ → ℕ
next_of size at = if at + 1 == size then 0 else at + 1

-- the place before, the last one before the first
abbrev pub before_of : ℕ → ℕ → ℕ
before_of size at = if at == 0 then size - 1 else at - 1
