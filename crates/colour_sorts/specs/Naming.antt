-- What the names in a sort lead to, over the named sorts as they are written.
use Rattle.std.specs.Prelude.{ℕ, zero, suc, ◌+◌, Bool, true, false, not, List, [], map, length, slice_index_or, Option, None, Some, position, if◌then◌else◌}
use Rattle.std.specs.List.{list_all}
use Rattle.std.specs.Str.{bytes_eq}
use Rattle.colour_sorts.specs.declared.rules.Rule.{Rule}
use Rattle.colour_sorts.specs.declared.rules.Rule.TheVariants as rule
use Rattle.net_model.specs.declared.sorts.NamedSort.{NamedSort}
use Rattle.net_model.specs.declared.sorts.SortTerm.{SortTerm, out-SortTerm, fold-SortTerm}
use Rattle.net_model.specs.declared.sorts.SortTerm.TheOpen.{SortTerm-F, Dot, Named, Product, Range, Listed, Cyclic}
use Rattle.net_model.specs.declared.sorts.SortTerm.TheVariants as term
use Rattle.colour_sorts.specs.declared.sorts.Sort.{Sort, roll-Sort}
use Rattle.colour_sorts.specs.declared.sorts.Sort.TheOpen as layer
use Rattle.colour_sorts.specs.declared.sorts.Sort.TheVariants as sort
use Rattle.colour_sorts.specs.Limits.{broken_in}
use Rattle.net_model.specs.Ids.{constants_of, ids_of}

-- the position of the named sort with an id
abbrev pub place_of : List (List ℕ) → List ℕ → Option ℕ
place_of ids id = position (bytes_eq id) ids

-- what the named sort at a position stands for
abbrev pub term_at : List NamedSort → ℕ → SortTerm
term_at sorts at = slice_index_or (map (λ s. s.sort) sorts) at term.Dot

-- whether all names in a term pass a test
abbrev pub names_pass_part : (List ℕ → Bool) → SortTerm-F Bool → Bool
names_pass_part test (Named id) = test id
names_pass_part test (Product parts) = list_all (λ part. part) parts
names_pass_part test _ = true

abbrev pub names_pass : (List ℕ → Bool) → SortTerm → Bool
names_pass test t = fold-SortTerm Bool (names_pass_part test) t

-- the sort of a term, where `named` says what a name stands for; an enumeration has the position of the named sort that it stands in
abbrev pub sort_by_part : (List ℕ → Sort) → ℕ → SortTerm-F Sort → Sort
sort_by_part named at Dot = sort.Dot
sort_by_part named at (Named id) = named id
sort_by_part named at (Product parts) = roll-Sort (layer.Product parts)
sort_by_part named at (Range span) = sort.Range span
sort_by_part named at (Listed _) = sort.Listed at
sort_by_part named at (Cyclic _) = sort.Cyclic at

abbrev pub sort_by : (List ℕ → Sort) → ℕ → SortTerm → Sort
sort_by named at t = fold-SortTerm Sort (sort_by_part named at) t

-- by the position that was found for a name
abbrev pub at_place : {A : Type 0} → A → (ℕ → A) → Option ℕ → A
at_place missing found None = missing
at_place missing found (Some at) = found at

-- whether every name is declared that a name leads to in so many steps
abbrev pub is_known_within : List NamedSort → ℕ → List ℕ → Bool
is_known_within sorts zero id = at_place false (λ at. true) (place_of (ids_of sorts) id)
is_known_within sorts (suc steps) id = at_place false (λ at. names_pass (is_known_within sorts steps) (term_at sorts at)) (place_of (ids_of sorts) id)

-- whether all ways from a name along declared names end in so many steps
abbrev pub ends_within : List NamedSort → ℕ → List ℕ → Bool
ends_within sorts zero id = false
ends_within sorts (suc steps) id = at_place true (λ at. names_pass (ends_within sorts steps) (term_at sorts at)) (place_of (ids_of sorts) id)

-- the sort that a name stands for, with names followed so many steps
abbrev pub sort_within : List NamedSort → ℕ → List ℕ → Sort
sort_within sorts zero id = sort.Dot
sort_within sorts (suc steps) id = at_place sort.Dot (λ at. sort_by (sort_within sorts steps) at (term_at sorts at)) (place_of (ids_of sorts) id)

-- a way of more steps than there are named sorts goes round in a circle
abbrev pub enough : List NamedSort → ℕ
enough sorts = length sorts + 1

-- every name that the term leads to is declared
abbrev pub is_known : List NamedSort → SortTerm → Bool
is_known sorts t = names_pass (is_known_within sorts (enough sorts)) t

-- the term leads into no circle
abbrev pub has_end : List NamedSort → SortTerm → Bool
has_end sorts t = names_pass (ends_within sorts (enough sorts)) t

-- the sort that a term stands for, where no name is unknown and there is no circle
abbrev pub sort_of : List NamedSort → ℕ → SortTerm → Sort
sort_of sorts at t = sort_by (sort_within sorts (enough sorts)) at t

-- the first rule that a term breaks, the term of the named sort at that position where it is an enumeration
abbrev pub broken_rule : List NamedSort → ℕ → SortTerm → Option Rule
broken_rule sorts at t =
    if not (is_known sorts t) then Some rule.UnknownSort
    else if not (has_end sorts t) then Some rule.SortCircle
    else broken_in (constants_of sorts) (sort_of sorts at t)
