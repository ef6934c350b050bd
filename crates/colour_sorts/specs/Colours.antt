-- The colours of a sort as values, in their order (ISO/IEC 15909-1, sorts and their carrier sets). The order of the list, and so
-- the number of a colour, which is its place in the list, are this project's own.
use Rattle.std.specs.Prelude.{ℕ, zero, suc, List, [], ◌∷◌, ℤ, pos, negsuc, ◌+ℤ◌, ◌-ℤ◌, map, length, slice_index_or, flat_map}
use Rattle.net_model.specs.declared.sorts.Span.{Span}
use Rattle.colour_sorts.specs.declared.sorts.Sort.{Sort, fold-Sort}
use Rattle.colour_sorts.specs.declared.sorts.Sort.TheOpen.{Sort-F, Dot, Listed, Cyclic, Range, Product}
use Rattle.colour_sorts.specs.declared.sorts.Colour.{Colour, roll-Colour}
use Rattle.colour_sorts.specs.declared.sorts.Colour.TheOpen as layer
use Rattle.colour_sorts.specs.declared.sorts.Colour.TheVariants as colour

-- so many whole numbers, rising from the first
abbrev pub rising : ℤ → ℕ → List ℤ
rising first zero = []
rising first (suc more) = first ∷ rising (first +ℤ pos 1) more

abbrev pub natural_part : ℤ → ℕ
natural_part (pos n) = n
natural_part (negsuc _) = 0

-- how many numbers a range has: none where it is upside down
abbrev pub span_length : Span → ℕ
span_length span = natural_part ((span.last +ℤ pos 1) -ℤ span.first)

-- the numbers of a range
abbrev pub span_numbers : Span → List ℤ
span_numbers span = rising span.first (span_length span)

-- the tuples with a colour of each list, in lexicographic order: the first component is the most significant
abbrev pub tuples : List (List Colour) → List (List Colour)
tuples [] = [] ∷ []
tuples (firsts ∷ others) = flat_map (λ first. map (λ rest. first ∷ rest) (tuples others)) firsts

abbrev pub tuple : List Colour → Colour
tuple components = roll-Colour (layer.Tuple components)

-- the constants that a named sort declares, by its position: none where it declares no enumeration
abbrev pub constants_at : List (List (List ℕ)) → ℕ → List (List ℕ)
constants_at constants at = slice_index_or constants at []

abbrev pub colours_of_parts : List (List (List ℕ)) → Sort-F (List Colour) → List Colour
colours_of_parts constants Dot = colour.Dot ∷ []
colours_of_parts constants (Listed at) = map colour.Constant (constants_at constants at)
colours_of_parts constants (Cyclic at) = map colour.Constant (constants_at constants at)
colours_of_parts constants (Range span) = map colour.Number (span_numbers span)
colours_of_parts constants (Product parts) = map tuple (tuples parts)

-- the colours of a sort, where the named sorts declare these constants
abbrev pub colours : List (List (List ℕ)) → Sort → List Colour
colours constants s = fold-Sort (List Colour) (colours_of_parts constants) s

-- how many colours a sort has
abbrev pub size : List (List (List ℕ)) → Sort → ℕ
size constants s = length (colours constants s)
