-- The rules of a sort whose names are followed, and their order, which is this project's own.
use Rattle.std.specs.Prelude.{ℕ, ◌+◌, ◌^◌, max, Bool, false, ◌||◌, List, [], ◌∷◌, length, int_lt, nat_lt, ◌==◌, Option, None, Some, if◌then◌else◌}
use Rattle.std.specs.List.{list_any}
use Rattle.colour_sorts.specs.declared.rules.Rule.{Rule}
use Rattle.colour_sorts.specs.declared.rules.Rule.TheVariants as rule
use Rattle.colour_sorts.specs.declared.sorts.Sort.{Sort, fold-Sort}
use Rattle.colour_sorts.specs.declared.sorts.Sort.TheOpen.{Sort-F, Listed, Cyclic, Range, Product}
use Rattle.colour_sorts.specs.Colours.{constants_at, size}

-- a range in the sort has its first number above its last
abbrev pub is_upside_down_part : Sort-F Bool → Bool
is_upside_down_part (Range span) = int_lt span.last span.first
is_upside_down_part (Product parts) = list_any (λ part. part) parts
is_upside_down_part _ = false

abbrev pub is_upside_down : Sort → Bool
is_upside_down s = fold-Sort Bool is_upside_down_part s

-- an enumeration in the sort has no constants
abbrev pub lacks_constants_part : List (List (List ℕ)) → Sort-F Bool → Bool
lacks_constants_part constants (Listed at) = length (constants_at constants at) == 0
lacks_constants_part constants (Cyclic at) = length (constants_at constants at) == 0
lacks_constants_part constants (Product parts) = list_any (λ part. part) parts
lacks_constants_part constants _ = false

abbrev pub lacks_constants : List (List (List ℕ)) → Sort → Bool
lacks_constants constants s = fold-Sort Bool (lacks_constants_part constants) s

-- a product in the sort has no components
abbrev pub lacks_components_part : Sort-F Bool → Bool
lacks_components_part (Product parts) = length parts == 0 || list_any (λ part. part) parts
lacks_components_part _ = false

abbrev pub lacks_components : Sort → Bool
lacks_components s = fold-Sort Bool lacks_components_part s

abbrev pub all_together : List ℕ → ℕ
all_together [] = 0
all_together (n ∷ ns) = n + all_together ns

-- how many sorts are in the sort, itself and each occurrence counted
abbrev pub sorts_in_part : Sort-F ℕ → ℕ
sorts_in_part (Product parts) = all_together parts + 1
sorts_in_part _ = 1

abbrev pub sorts_in : Sort → ℕ
sorts_in s = fold-Sort ℕ sorts_in_part s

abbrev pub greatest : List ℕ → ℕ
greatest [] = 0
greatest (n ∷ ns) = max n (greatest ns)

-- how deep the sorts in the sort stand, itself being at depth 1
abbrev pub depth_part : Sort-F ℕ → ℕ
depth_part (Product parts) = greatest parts + 1
depth_part _ = 1

abbrev pub depth : Sort → ℕ
depth s = fold-Sort ℕ depth_part s

abbrev pub passes_limit : List (List (List ℕ)) → Sort → Bool
passes_limit constants s = nat_lt (2 ^ 20) (size constants s) || nat_lt 4096 (sorts_in s) || nat_lt 256 (depth s)

-- the first rule that the sort breaks
abbrev pub broken_in : List (List (List ℕ)) → Sort → Option Rule
broken_in constants s =
    if is_upside_down s then Some rule.RangeUpsideDown
    else if lacks_constants constants s then Some rule.EmptySort
    else if lacks_components s then Some rule.EmptyProduct
    else if passes_limit constants s then Some rule.DomainLimit
    else None
