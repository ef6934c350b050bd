-- The search for the first transition that doesn't keep a weighted sum.
use Rattle.std.specs.Prelude.{◌≡◌, ℕ, ◌<◌, ◌≤◌, List, [], length, Bool, true, false, bytes_eq, Contains, slice_index, slice_index_or, ℤ}
use Rattle.std.specs.List.{list_any}
use Rattle.pt_net.specs.Systems.{NetSystem, instance_at}
use Rattle.plain_model.specs.declared.certificates.Weight.{Weight}
use Rattle.plain_model.specs.Obligations.{is_true}
use Rattle.plain_judge.specs.Judging.{instance_check}
use Rattle.plain_judge.specs.declared.incidences.Incidence.{Incidence}
use Rattle.plain_judge.specs.Incidences.{incidence}

-- whether the transition with this number keeps the weighted sum
abbrev pub keeps : List ℤ → NetSystem → ℕ → Bool
keeps coefficients system transition = is_true (instance_check coefficients (instance_at system transition))

-- every transition below `least` keeps the sum, and `least`, where it is one, doesn't
pub record IsFirstFailing (coefficients : List ℤ) (system : NetSystem) (least : ℕ) : Type 0 where
  pub within : least ≤ length system.instances
  pub before : (transition : ℕ) → transition < least → keeps coefficients system transition ≡ true
  pub fails : least < length system.instances → keeps coefficients system least ≡ false

-- the same of the marked transitions alone
pub record IsFirstMarked (coefficients : List ℤ) (system : NetSystem) (marks : List ℕ) (mark least : ℕ) : Type 0 where
  pub within : least ≤ length system.instances
  pub before : (transition : ℕ) → transition < least → slice_index marks transition ≡ mark → keeps coefficients system transition ≡ true
  pub fails : least < length system.instances → keeps coefficients system least ≡ false

-- whether a weight is on the place with this id
abbrev pub is_weighed : List Weight → List ℕ → Bool
is_weighed weights id = list_any (λ weight. bytes_eq id weight.place) weights

-- the transitions below `least` that are listed at a place of the weights keep the sum
abbrev pub KeepAtPlaces : List (List ℕ) → List Weight → List Incidence → List ℤ → NetSystem → ℕ → Type 0
KeepAtPlaces names weights incidences coefficients system least =
    (place transition : ℕ) → place < length names → is_weighed weights (slice_index_or names place []) ≡ true
    → Contains incidences (incidence place transition) → transition < least → keeps coefficients system transition ≡ true
