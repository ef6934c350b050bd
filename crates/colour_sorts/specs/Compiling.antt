-- The sorts that terms stand for, by those of the named sorts as far as they are compiled.
use Rattle.std.specs.Prelude.{◌≡◌, ℕ, ◌+◌, ◌<◌, List, [], ◌∷◌, length, map, slice_get, Option, None, Some}
use Rattle.colour_sorts.specs.declared.sorts.Sort.{Sort}
use Rattle.net_model.specs.declared.sorts.NamedSort.{NamedSort}
use Rattle.net_model.specs.declared.sorts.SortTerm.{SortTerm}
use Rattle.net_model.specs.Ids.{ids_of}
use Rattle.colour_sorts.specs.Naming.{place_of, sort_by, sort_within}
use Rattle.colour_sorts.specs.Searching.{Has, places_named}

abbrev pub one_if_some : Option Sort → ℕ
one_if_some None = 0
one_if_some (Some s) = 1

abbrev pub count_some : List (Option Sort) → ℕ
count_some [] = 0
count_some (s ∷ ss) = one_if_some s + count_some ss

-- what is compiled is what the names stand for, with names followed so many steps
abbrev pub AreCompiled : List NamedSort → List (Option Sort) → ℕ → Type 0
AreCompiled sorts compiled steps = (id : List ℕ) (at : ℕ) (s : Sort) → place_of (ids_of sorts) id ≡ Some at → slice_get compiled at ≡ Some (Some s) → s ≡ sort_within sorts steps id

-- a sort is what a term stands for, whatever the named sorts are that are compiled so
abbrev pub IsCompiledBy : List (List ℕ) → List (Option Sort) → ℕ → SortTerm → Sort → Type 0
IsCompiledBy ids compiled at t s = (sorts : List NamedSort) (steps : ℕ) → ids ≡ ids_of sorts → AreCompiled sorts compiled steps → s ≡ sort_by (sort_within sorts steps) at t

-- a name in the term isn't compiled
abbrev pub IsUncompiled : List (List ℕ) → List (Option Sort) → SortTerm → Type 0
IsUncompiled ids compiled t = (at : ℕ) × Has (places_named ids t) at × (slice_get compiled at ≡ Some None)

abbrev pub AreCompiledBy : List (List ℕ) → List (Option Sort) → ℕ → List SortTerm → List Sort → Type 0
AreCompiledBy ids compiled at ts ss = (sorts : List NamedSort) (steps : ℕ) → ids ≡ ids_of sorts → AreCompiled sorts compiled steps → ss ≡ map (sort_by (sort_within sorts steps) at) ts

-- what is compiled is right, with more steps than there are sorts compiled
pub record IsCompiling (sorts : List NamedSort) (compiled : List (Option Sort)) : Type 0 where
  pub as_long : length compiled ≡ length sorts
  pub settled : (steps : ℕ) → count_some compiled < steps → AreCompiled sorts compiled steps

-- a named sort is compiled, and all below a position are
abbrev pub IsCompiledAt : List (Option Sort) → ℕ → Type 0
IsCompiledAt compiled at = slice_get compiled at ≡ Some None → ⊥

abbrev pub AreAllCompiled : List (Option Sort) → ℕ → Type 0
AreAllCompiled compiled most = (at : ℕ) → at < most → IsCompiledAt compiled at

-- what is compiled stays so
abbrev pub Grows : List (Option Sort) → List (Option Sort) → Type 0
Grows old now = (at : ℕ) → slice_get now at ≡ Some None → slice_get old at ≡ Some None
