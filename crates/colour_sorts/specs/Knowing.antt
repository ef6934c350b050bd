-- The search along names for one that isn't declared.
use Rattle.std.specs.Prelude.{◌≡◌, ℕ, ◌+◌, ◌<◌, ◌≤◌, Bool, true, false, List, [], ◌∷◌, length, slice_get, None, Some}
use Rattle.colour_sorts.specs.declared.ordering.Turn.{Turn}
use Rattle.colour_sorts.specs.declared.ordering.Visit.{Visit}
use Rattle.colour_sorts.specs.declared.ordering.Visit.TheVariants.{Fresh}
use Rattle.net_model.specs.declared.sorts.NamedSort.{NamedSort}
use Rattle.net_model.specs.declared.sorts.SortTerm.{SortTerm}
use Rattle.net_model.specs.Ids.{ids_of}
use Rattle.colour_sorts.specs.Naming.{at_place, is_known_within, names_pass, place_of, term_at}
use Rattle.colour_sorts.specs.Searching.{Leads, place_in_turn, visit_at}

abbrev pub is_declared : List (List ℕ) → List ℕ → Bool
is_declared ids id = at_place false (λ at. true) (place_of ids id)

-- a name in the term isn't declared
abbrev pub HasUnknown : List (List ℕ) → SortTerm → Type 0
HasUnknown ids t = (test : List ℕ → Bool) → ((id : List ℕ) → place_of ids id ≡ None → test id ≡ false) → names_pass test t ≡ false

-- in so many steps or more the named sort at a position leads to a name that isn't declared
abbrev pub IsUnknown : List NamedSort → ℕ → ℕ → Type 0
IsUnknown sorts steps at = (more : ℕ) → names_pass (is_known_within sorts (steps + more)) (term_at sorts at) ≡ false

abbrev pub one_if_seen : Visit → ℕ
one_if_seen Fresh = 0
one_if_seen _ = 1

abbrev pub seen_count : List Visit → ℕ
seen_count [] = 0
seen_count (v ∷ visits) = one_if_seen v + seen_count visits

abbrev pub IsAwaited : List Turn → ℕ → Type 0
IsAwaited waiting at = (k : ℕ) × (turn : Turn) × (slice_get waiting k ≡ Some turn) × (place_in_turn turn ≡ at)

-- the search from a named sort: what waits isn't further from it than sorts were seen, and of what was seen all names are declared
-- and lead to what was seen or waits
pub record IsKnowing (sorts : List NamedSort) (visits : List Visit) (waiting : List Turn) (root : ℕ) : Type 0 where
  pub as_long : length visits ≡ length sorts
  pub inside : (k : ℕ) (turn : Turn) → slice_get waiting k ≡ Some turn → place_in_turn turn < length sorts
  pub near : (k : ℕ) (turn : Turn) → slice_get waiting k ≡ Some turn
      → (m : ℕ) × (m ≤ seen_count visits) × ((steps : ℕ) → IsUnknown sorts steps (place_in_turn turn) → IsUnknown sorts (steps + m) root)
  pub declared : (at : ℕ) → (visit_at visits at ≡ Fresh → ⊥) → names_pass (is_declared (ids_of sorts)) (term_at sorts at) ≡ true
  pub closed : (at to : ℕ) → (visit_at visits at ≡ Fresh → ⊥) → Leads sorts at to → visit_at visits to ≡ Fresh → IsAwaited waiting to
  pub begun : visit_at visits root ≡ Fresh → IsAwaited waiting root
