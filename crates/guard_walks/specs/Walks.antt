-- The guard of a transition under bindings of its variables, which are some of all that are declared.
use Rattle.std.specs.Prelude.{◌≡◌, ℕ, ◌+◌, ◌^◌, ◌<◌, ◌≤◌, Bool, true, false, List, length, map, slice_get, slice_index, slice_index_or, Some}
use Rattle.bindings.specs.Listed.{IsBinding, bindings, product}
use Rattle.multiset_terms.specs.declared.conditions.CGuard.{CGuard}
use Rattle.net_model.specs.declared.terms.Guard.{Guard}
use Rattle.multiset_terms.specs.Conditions.{condition_uses_at, verdict}
use Rattle.multiset_terms.specs.Context.{Context}
use Rattle.multiset_terms.specs.Parts.{IsScope}
use Rattle.multiset_terms.specs.Standing.{GuardStandsFor, compiled_parts}
use Rattle.multiset_terms.specs.Usable.{IsUsable, sizes_of}
use Rattle.guard_walks.specs.declared.walks.GuardWalk.{GuardWalk}
use Rattle.guard_walks.specs.declared.walks.Signature.{Signature}
use Rattle.guard_walks.specs.Testing.{AreTests}

-- how many colours the sort of each declared variable has
abbrev pub all_sizes : Signature → List ℕ
all_sizes s = sizes_of s.domains s.variables

-- the numbers of some variables among those of all
abbrev pub values_at : List ℕ → List ℕ → List ℕ
values_at indices variables = map (λ variable. slice_index indices variable) variables

-- these variables are declared, and each stands once
pub record AreVariables (declared : ℕ) (variables : List ℕ) : Type 0 where
  pub each : (at : ℕ) → at < length variables → slice_index variables at < declared
  pub once : (at other : ℕ) → at < length variables → other < length variables → slice_index variables at ≡ slice_index variables other → at ≡ other

-- a compiled guard stands for a written one, over declarations that can be used
pub record IsGuard (s : Signature) (c : CGuard) : Type 0 where
  pub usable : IsUsable s.domains s.variables
  pub context : Context
  pub scope : IsScope context s.domains s.variables
  pub written : Guard
  pub stands : GuardStandsFor context written c

-- the variables that occur in a guard are among these
abbrev pub IsOver : Signature → CGuard → List ℕ → Type 0
IsOver s c variables = (v : ℕ) → v < length (all_sizes s) → condition_uses_at v c ≡ true → (at : ℕ) × (at < length variables) × (slice_index variables at ≡ v)

-- the truth of a guard under colour indices of all declared variables, and that of one of its parts
abbrev pub is_true_at : Signature → CGuard → List ℕ → Bool
is_true_at s c indices = (verdict s.domains indices c).is_true

abbrev pub part_at : CGuard → ℕ → CGuard
part_at c part = slice_index_or (compiled_parts c) part c

abbrev pub is_part_true_at : Signature → CGuard → ℕ → List ℕ → Bool
is_part_true_at s c part indices = is_true_at s (part_at c part) indices

-- what is true of each walk that is made over a signature
pub record IsWalk (s : Signature) (w : GuardWalk) : Type 0 where
  pub known : IsGuard s w.guard
  pub declared : AreVariables (length (all_sizes s)) w.variables
  pub sizes : w.sizes ≡ values_at (all_sizes s) w.variables
  pub counted : w.total ≡ product w.sizes
  pub small : w.total < 2 ^ 32
  pub tests : AreTests (is_part_true_at s w.guard) (length (compiled_parts w.guard)) (is_true_at s w.guard) (all_sizes s) w.variables w.tests

-- the truth of a guard under the bindings of a transition's variables alone: whatever the other variables are bound to, it is the same
abbrev pub HasTruth : Signature → GuardWalk → (List ℕ → Bool) → Type 0
HasTruth s w truth = (indices : List ℕ) → IsBinding (all_sizes s) indices → is_true_at s w.guard indices ≡ truth (values_at indices w.variables)

-- a guard is false under so many bindings from this number on
pub record IsFalseStretch (sizes : List ℕ) (truth : List ℕ → Bool) (number skip : ℕ) : Type 0 where
  pub some : 0 < skip
  pub room : number + skip ≤ product sizes
  pub fails : (m : ℕ) (b : List ℕ) → number ≤ m → m < number + skip → slice_get (bindings sizes) m ≡ Some b → truth b ≡ false

-- a guard is true under the binding of this number
pub record IsTrueBinding (sizes : List ℕ) (truth : List ℕ → Bool) (number : ℕ) (binding : List ℕ) : Type 0 where
  pub there : slice_get (bindings sizes) number ≡ Some binding
  pub holds : truth binding ≡ true
