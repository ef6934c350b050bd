-- What is known of a guard's parts while a binding is made, variable by variable. Truth is that under the colour indices of all declared
-- variables, whose numbers of colours are `all`; `variables` are those that are bound.
use Rattle.std.specs.Prelude.{◌≡◌, ℕ, ◌+◌, ◌<◌, ◌≤◌, Bool, true, false, List, ◌++◌, Some, length, map, take, drop, slice_get, slice_index, All}
use Rattle.std.specs.List.{list_all}
use Rattle.bindings.specs.Listed.{IsBinding, bindings, product}
use Rattle.guard_walks.specs.declared.walks.Test.{Test}
use Rattle.guard_walks.specs.declared.walking.Progress.{Progress}

-- two lists of colour indices begin with the same colours of the variables
abbrev pub BeginAlike : List ℕ → ℕ → List ℕ → List ℕ → Type 0
BeginAlike variables bound a b = take bound (map (λ v. slice_index a v) variables) ≡ take bound (map (λ v. slice_index b v) variables)

-- a test is of a part that is there, whose truth is the same where the first variables have the same colours
pub record IsTest (part : ℕ → List ℕ → Bool) (count : ℕ) (all variables : List ℕ) (test : Test) : Type 0 where
  pub there : test.part < count
  pub needs : test.needs ≤ length variables
  pub depends : (a b : List ℕ) → IsBinding all a → IsBinding all b → BeginAlike variables test.needs a b → part test.part a ≡ part test.part b

-- the parts of these tests are true
abbrev pub all_tests : (ℕ → List ℕ → Bool) → List Test → List ℕ → Bool
all_tests part tests b = list_all (λ test. part test.part b) tests

-- these tests together are the guard
pub record AreTests (part : ℕ → List ℕ → Bool) (count : ℕ) (whole : List ℕ → Bool) (all variables : List ℕ) (tests : List Test) : Type 0 where
  pub each : All (IsTest part count all variables) tests
  pub together : (b : List ℕ) → IsBinding all b → all_tests part tests b ≡ whole b

-- these tests are true of all that begins with the same colours
pub record Passed (part : ℕ → List ℕ → Bool) (all variables : List ℕ) (tests : List Test) (bound : ℕ) (indices : List ℕ) : Type 0 where
  pub passes : (b : List ℕ) → IsBinding all b → BeginAlike variables bound b indices → all_tests part tests b ≡ true

-- the guard is false of all that begins with the same colours
pub record Fails (whole : List ℕ → Bool) (all variables : List ℕ) (bound : ℕ) (indices : List ℕ) : Type 0 where
  pub fails : (b : List ℕ) → IsBinding all b → BeginAlike variables bound b indices → whole b ≡ false

-- how far the binding of a number is made: of the bindings that begin with the values so far there are `weight`, and the number is that of
-- place `rest` among them
pub record Stands (sizes : List ℕ) (progress : Progress) (values : List ℕ) : Type 0 where
  pub many : length values ≡ length sizes
  pub bound : progress.bound ≤ length sizes
  pub within : progress.rest < progress.weight
  pub counted : progress.weight ≡ product (drop progress.bound sizes)
  pub least : progress.rest ≤ progress.number
  pub room : progress.number + progress.weight ≤ product sizes + progress.rest
  pub completes : (r m : ℕ) (b : List ℕ) → m + progress.rest ≡ progress.number + r → slice_get (bindings (drop progress.bound sizes)) r ≡ Some b
      → slice_get (bindings sizes) m ≡ Some (take progress.bound values ++ b)
