-- The search along names for an order of the named sorts.
use Rattle.std.specs.Prelude.{◌≡◌, ℕ, ◌+◌, ◌<◌, ◌⊎◌, All, Bool, false, List, [], ◌∷◌, ◌++◌, flat_map, length, slice_get, slice_index_or, Some}
use Rattle.colour_sorts.specs.declared.ordering.Turn.{Turn}
use Rattle.colour_sorts.specs.declared.ordering.Turn.TheVariants.{Enter, Leave}
use Rattle.colour_sorts.specs.declared.ordering.Visit.{Visit}
use Rattle.colour_sorts.specs.declared.ordering.Visit.TheVariants.{Fresh, Open, Placed}
use Rattle.net_model.specs.declared.sorts.NamedSort.{NamedSort}
use Rattle.net_model.specs.declared.sorts.SortTerm.{SortTerm, fold-SortTerm}
use Rattle.net_model.specs.declared.sorts.SortTerm.TheOpen.{SortTerm-F, Named, Product}
use Rattle.net_model.specs.Ids.{ids_of}
use Rattle.colour_sorts.specs.Naming.{at_place, ends_within, names_pass, place_of, term_at}

-- the positions of the named sorts that a term names, in the order of the names
abbrev pub places_named_part : List (List ℕ) → SortTerm-F (List ℕ) → List ℕ
places_named_part ids (Named id) = at_place [] (λ at. at ∷ []) (place_of ids id)
places_named_part ids (Product parts) = flat_map (λ part. part) parts
places_named_part ids _ = []

abbrev pub places_named : List (List ℕ) → SortTerm → List ℕ
places_named ids t = fold-SortTerm (List ℕ) (places_named_part ids) t

abbrev pub Has : {X : Type 0} → List X → X → Type 0
Has xs x = (k : ℕ) × (slice_get xs k ≡ Some x)

-- the named sort at a position names the one at another
abbrev pub Leads : List NamedSort → ℕ → ℕ → Type 0
Leads sorts from to = Has (places_named (ids_of sorts) (term_at sorts from)) to

-- names lead from the one to the other, in some steps or none
pub data Reaches : List NamedSort → ℕ → ℕ → Type 0 where
  here : (sorts : List NamedSort) (at : ℕ) → Reaches sorts at at
  on : (sorts : List NamedSort) (from to end : ℕ) → Leads sorts from to → Reaches sorts to end → Reaches sorts from end

-- the named sort at a position leads into a circle: its names end in no number of steps
abbrev pub IsEndless : List NamedSort → ℕ → Type 0
IsEndless sorts at = (steps : ℕ) → names_pass (ends_within sorts steps) (term_at sorts at) ≡ false

-- each sort stands behind those that it names, unless they lead into a circle
abbrev pub AreBehind : List NamedSort → List ℕ → Type 0
AreBehind sorts order = (k at to : ℕ) → slice_get order k ≡ Some at → Leads sorts at to → ((j : ℕ) × (j < k) × (slice_get order j ≡ Some to)) ⊎ IsEndless sorts to

-- an order of all named sorts
pub record IsOrder (sorts : List NamedSort) (order : List ℕ) : Type 0 where
  pub within : All (λ at. at < length sorts) order
  pub complete : (at : ℕ) → at < length sorts → Has order at
  pub behind : AreBehind sorts order

abbrev pub visit_at : List Visit → ℕ → Visit
visit_at visits at = slice_index_or visits at Fresh

-- the position of the named sort whose turn it is
abbrev pub place_in_turn : Turn → ℕ
place_in_turn (Enter at) = at
place_in_turn (Leave at) = at

-- so many named sorts wait to be entered
pub record AreEntries (count : ℕ) (waiting : List Turn) : Type 0 where
  pub as_long : length waiting ≡ count
  pub each : (at : ℕ) → at < count → slice_get waiting at ≡ Some (Enter at)

-- on the way: from each sort that waits to be left names lead to all that waits behind it, and what it names and wasn't entered waits
-- there
pub record IsSearch (sorts : List NamedSort) (visits : List Visit) (waiting : List Turn) (order : List ℕ) : Type 0 where
  pub as_long : length visits ≡ length sorts
  pub inside : (k : ℕ) (turn : Turn) → slice_get waiting k ≡ Some turn → place_in_turn turn < length sorts
  pub within : All (λ at. at < length sorts) order
  pub placed : (at : ℕ) → visit_at visits at ≡ Placed → Has order at
  pub left : (at : ℕ) → visit_at visits at ≡ Open → Has waiting (Leave at)
  pub fresh : (at : ℕ) → at < length sorts → visit_at visits at ≡ Fresh → Has waiting (Enter at)
  pub way : (k j at : ℕ) (turn : Turn) → slice_get waiting k ≡ Some (Leave at) → k < j → slice_get waiting j ≡ Some turn → Reaches sorts at (place_in_turn turn)
  pub named : (k at to : ℕ) → slice_get waiting k ≡ Some (Leave at) → Leads sorts at to → visit_at visits to ≡ Fresh → (j : ℕ) × (k < j) × (slice_get waiting j ≡ Some (Enter to))
  pub behind : AreBehind sorts order

-- a sort that is entered has to be left, and what it names looked at
abbrev pub steps_of : List (List ℕ) → Visit → NamedSort → ℕ
steps_of ids Fresh s = length (places_named ids s.sort) + 2
steps_of ids _ s = 0

abbrev pub steps_of_all : List (List ℕ) → List NamedSort → List Visit → ℕ
steps_of_all ids [] _ = 0
steps_of_all ids (s ∷ sorts) [] = 0
steps_of_all ids (s ∷ sorts) (v ∷ visits) = steps_of ids v s + steps_of_all ids sorts visits
