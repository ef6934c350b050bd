-- What is kept of a sort for the rules: the tests themselves, and the numbers as far as just above their limits.
use Rattle.std.specs.Prelude.{◌≡◌, ℕ, ◌+◌, ◌*◌, ◌<◌, ◌≤◌, max, min, Bool, true, false, ◌&&◌, ◌||◌, List, length, slice_get, Some}
use Rattle.colour_sorts.specs.declared.facts.Facts.{Facts}
use Rattle.colour_sorts.specs.declared.facts.Mark.{Mark}
use Rattle.colour_sorts.specs.declared.facts.Mark.TheVariants.{Done}
use Rattle.colour_sorts.specs.declared.sorts.Sort.{Sort}
use Rattle.net_model.specs.declared.sorts.NamedSort.{NamedSort}
use Rattle.net_model.specs.declared.sorts.SortTerm.{SortTerm}
use Rattle.colour_sorts.specs.Colours.{constants_at, size}
use Rattle.colour_sorts.specs.Limits.{depth, is_upside_down, lacks_components, lacks_constants, sorts_in}
use Rattle.net_model.specs.Ids.{constants_of, ids_of}
use Rattle.colour_sorts.specs.Naming.{ends_within, is_known_within, names_pass, place_of, sort_by, sort_within}
use Rattle.colour_sorts.specs.Searching.{Has, places_named}

pub record IsFacts (constants : List (List (List ℕ))) (s : Sort) (facts : Facts) : Type 0 where
  pub upside_down : facts.is_upside_down ≡ is_upside_down s
  pub no_constants : facts.lacks_constants ≡ lacks_constants constants s
  pub no_components : facts.lacks_components ≡ lacks_components s
  pub size : facts.size ≡ min 1048577 (size constants s)
  pub sorts : facts.sorts ≡ min 4097 (sorts_in s)
  pub depth : facts.depth ≡ min 257 (depth s)

-- the numbers stop just above their limits
pub record AreCapped (facts : Facts) : Type 0 where
  pub size : facts.size ≤ 1048577
  pub sorts : facts.sorts ≤ 4097
  pub depth : facts.depth ≤ 257

-- a product of components with one more
abbrev pub joined : Facts → Facts → Facts
joined all part = record {
  is_known = all.is_known && part.is_known;
  is_upside_down = all.is_upside_down || part.is_upside_down;
  lacks_constants = all.lacks_constants || part.lacks_constants;
  lacks_components = all.lacks_components || part.lacks_components;
  size = min (all.size * part.size) 1048577;
  sorts = min (all.sorts + part.sorts) 4097;
  depth = min (max all.depth (part.depth + 1)) 257;
}

-- what is kept of a named sort whose names are followed so many steps
pub record IsSettled (sorts : List NamedSort) (steps : ℕ) (id : List ℕ) (facts : Facts) : Type 0 where
  pub ends : ends_within sorts steps id ≡ true
  pub known : facts.is_known ≡ is_known_within sorts steps id
  pub tests : IsFacts (constants_of sorts) (sort_within sorts steps id) facts

-- and of a term, of the named sort at a position
pub record IsJudged (sorts : List NamedSort) (steps at : ℕ) (t : SortTerm) (facts : Facts) : Type 0 where
  pub ends : names_pass (ends_within sorts steps) t ≡ true
  pub known : facts.is_known ≡ names_pass (is_known_within sorts steps) t
  pub tests : IsFacts (constants_of sorts) (sort_by (sort_within sorts steps) at t) facts

-- the facts of every named sort that is done
abbrev pub AreSettled : List NamedSort → List Mark → ℕ → Type 0
AreSettled sorts marks steps = (id : List ℕ) (at : ℕ) (facts : Facts) → place_of (ids_of sorts) id ≡ Some at → slice_get marks at ≡ Some (Done facts) → IsSettled sorts steps id facts

-- the term names the named sort at a position, which isn't done
pub record IsWaiting (ids : List (List ℕ)) (marks : List Mark) (t : SortTerm) (at : ℕ) : Type 0 where
  pub within : at < length ids
  pub open_ : (facts : Facts) → slice_get marks at ≡ Some (Done facts) → ⊥
  pub named : Has (places_named ids t) at

-- the numbers of all facts stop just above their limits
abbrev pub AreMarksCapped : List Mark → Type 0
AreMarksCapped marks = (at : ℕ) (facts : Facts) → slice_get marks at ≡ Some (Done facts) → AreCapped facts

-- the facts of a term, whatever the named sorts are whose marks these are
abbrev pub IsJudgedBy : List (List ℕ) → List Mark → ℕ → SortTerm → Facts → Type 0
IsJudgedBy ids marks own t facts =
    (sorts : List NamedSort) (steps at : ℕ) → ids ≡ ids_of sorts → AreSettled sorts marks steps → 0 < steps
    → own ≡ length (constants_at (constants_of sorts) at) → IsJudged sorts steps at t facts
