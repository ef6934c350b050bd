-- The values of terms and guards under a binding (ISO/IEC 15909-1, multisets over sorts and the evaluation of terms). Where a
-- difference is defined, the order of comparisons and the steps of cyclic enumerations are this project's own.
use Rattle.std.specs.Prelude.{ℕ, ◌-◌, ◌*◌, Bool, true, false, not, ◌&&◌, ◌||◌, nat_eq, nat_lt, nat_le, List, [], ◌∷◌, map, length, sum_by, slice_index_or, position, if◌then◌else◌}
use Rattle.std.specs.List.{list_all, list_any, position_or_len}
use Rattle.std.specs.Ordering.{int_eq}
use Rattle.std.specs.Str.{bytes_eq}
use Rattle.net_model.specs.declared.sorts.Block.{Block}
use Rattle.colour_sorts.specs.declared.sorts.Sort.{Sort, roll-Sort}
use Rattle.colour_sorts.specs.declared.sorts.Sort.TheOpen as layer
use Rattle.colour_sorts.specs.declared.sorts.Sort.TheVariants as sort
use Rattle.colour_sorts.specs.declared.sorts.Colour.{Colour, fold-Colour, out-Colour}
use Rattle.colour_sorts.specs.declared.sorts.Colour.TheOpen as open_colour
use Rattle.colour_sorts.specs.declared.sorts.Colour.TheVariants as colour
use Rattle.colour_sorts.specs.Colours.{colours, tuple}
use Rattle.colour_sorts.specs.Dividing.{block_with}
use Rattle.net_model.specs.Ids.{constants_of}
use Rattle.colour_sorts.specs.Places.{next_of, before_of}
use Rattle.net_model.specs.declared.terms.Order.{Order}
use Rattle.net_model.specs.declared.terms.Order.TheVariants as order
use Rattle.net_model.specs.declared.terms.Term.{Term, fold-Term}
use Rattle.net_model.specs.declared.terms.Term.TheOpen.{Term-F, Variable, Operator, Dot, Number, Successor, Predecessor, Tuple, All, Empty, NumberOf, Scalar, Add, Subtract, BlockOf}
use Rattle.net_model.specs.declared.terms.Guard.{Guard, fold-Guard}
use Rattle.net_model.specs.declared.terms.Guard.TheOpen as guard
use Rattle.multiset_terms.specs.Context.{Context}
use Rattle.multiset_terms.specs.Typing.{at_place, constant_place, element_place, partition_place, sort_at, sort_named, variable_sort}

-- whether two colours are the same
abbrev pub all_same : List (Colour → Bool) → List Colour → Bool
all_same [] [] = true
all_same (test ∷ tests) (c ∷ more) = test c && all_same tests more
all_same _ _ = false

abbrev pub is_same_layer : open_colour.Colour-F (Colour → Bool) → open_colour.Colour-F Colour → Bool
is_same_layer open_colour.Dot open_colour.Dot = true
is_same_layer (open_colour.Constant name) (open_colour.Constant other) = bytes_eq name other
is_same_layer (open_colour.Number number) (open_colour.Number other) = int_eq number other
is_same_layer (open_colour.Tuple tests) (open_colour.Tuple parts) = all_same tests parts
is_same_layer _ _ = false

abbrev pub is_same_part : open_colour.Colour-F (Colour → Bool) → Colour → Bool
is_same_part parts other = is_same_layer parts (out-Colour other)

abbrev pub is_same : Colour → Colour → Bool
is_same c = fold-Colour (Colour → Bool) is_same_part c

-- a binding gives each variable a colour, by its id
abbrev pub Binding : Type 0
Binding = List ℕ → Colour

-- a term under a binding: its sort, its colour and its block where it is one, how often each colour is in it, and whether it has
-- a value
pub record Meaning : Type 0 where
  pub sort : Sort
  pub colour : Colour
  pub block : ℕ
  pub count : Colour → ℕ
  pub is_defined : Bool

abbrev pub colours_of : Context → Sort → List Colour
colours_of ctx s = colours (constants_of ctx.sorts) s

-- the place of a colour in a list of colours
abbrev pub place_in : List Colour → Colour → ℕ
place_in cs c = position_or_len (is_same c) cs

abbrev pub one_colour : Sort → Colour → Bool → Meaning
one_colour s c is_defined = record { sort = s; colour = c; block = 0; count = λ other. if is_same c other then 1 else 0; is_defined = is_defined }

abbrev pub many : Sort → (Colour → ℕ) → Bool → Meaning
many s count is_defined = record { sort = s; colour = colour.Dot; block = 0; count = count; is_defined = is_defined }

abbrev pub one_block : ℕ → Bool → Meaning
one_block block is_defined = record { sort = sort.Dot; colour = colour.Dot; block = block; count = λ _. 0; is_defined = is_defined }

-- the colour a step further in a list that goes round
abbrev pub stepped : (ℕ → ℕ → ℕ) → List Colour → Colour → Colour
stepped step cs c = slice_index_or cs (step (length cs) (place_in cs c)) c

-- the product of the components' counts at the components of a tuple
abbrev pub counts_at : List Meaning → List Colour → ℕ
counts_at [] [] = 1
counts_at (m ∷ ms) (c ∷ cs) = m.count c * counts_at ms cs
counts_at _ _ = 0

abbrev pub tuple_count_layer : List Meaning → open_colour.Colour-F Colour → ℕ
tuple_count_layer ms (open_colour.Tuple cs) = counts_at ms cs
tuple_count_layer ms _ = 0

abbrev pub tuple_count : List Meaning → Colour → ℕ
tuple_count ms c = tuple_count_layer ms (out-Colour c)

abbrev pub are_defined : List Meaning → Bool
are_defined ms = list_all (λ m. m.is_defined) ms

abbrev pub sort_of_first : List Meaning → Sort
sort_of_first [] = sort.Dot
sort_of_first (m ∷ _) = m.sort

-- the blocks of a partition, and the place among them of the block with a colour
abbrev pub blocks_at : Context → ℕ → List Block
blocks_at ctx at = slice_index_or (map (λ p. p.elements) ctx.partitions) at []

abbrev pub element_at : Context → List ℕ → ℕ → ℕ
element_at ctx id at = position_or_len (λ element. bytes_eq id element.id) (blocks_at ctx at)

abbrev pub operator_meaning : Context → List ℕ → Meaning
operator_meaning ctx id =
    at_place (at_place (one_block 0 false) (λ at. one_block (element_at ctx id at) true) (element_place ctx id))
    (λ at. one_colour (sort_at ctx at) (colour.Constant id) true) (constant_place ctx id)

abbrev pub variable_meaning : Context → Binding → List ℕ → Meaning
variable_meaning ctx b id = at_place (one_colour sort.Dot (b id) false) (λ at. one_colour (variable_sort ctx at) (b id) true) (position (bytes_eq id) ctx.variables.ids)

-- at each of these colours at most as much
abbrev pub is_within : List Colour → (Colour → ℕ) → (Colour → ℕ) → Bool
is_within cs part whole = list_all (λ c. nat_le (part c) (whole c)) cs

abbrev pub meaning_part : Context → Binding → Term-F Meaning → Meaning
meaning_part ctx b (Variable id) = variable_meaning ctx b id
meaning_part ctx b (Operator id) = operator_meaning ctx id
meaning_part ctx b Dot = one_colour sort.Dot colour.Dot true
meaning_part ctx b (Number value span) = one_colour (sort.Range span) (colour.Number value) true
meaning_part ctx b (Successor m) = one_colour m.sort (stepped next_of (colours_of ctx m.sort) m.colour) m.is_defined
meaning_part ctx b (Predecessor m) = one_colour m.sort (stepped before_of (colours_of ctx m.sort) m.colour) m.is_defined
meaning_part ctx b (Tuple ms) = record {
  sort = roll-Sort (layer.Product (map (λ m. m.sort) ms));
  colour = tuple (map (λ m. m.colour) ms);
  block = 0;
  count = tuple_count ms;
  is_defined = are_defined ms;
}
meaning_part ctx b (All written) = many (sort_named ctx written) (λ _. 1) true
meaning_part ctx b (Empty written) = many (sort_named ctx written) (λ _. 0) true
meaning_part ctx b (NumberOf number m) = many m.sort (λ c. number * m.count c) m.is_defined
meaning_part ctx b (Scalar number m) = many m.sort (λ c. number * m.count c) m.is_defined
meaning_part ctx b (Add ms) = many (sort_of_first ms) (λ c. sum_by (λ m. m.count c) ms) (are_defined ms)
meaning_part ctx b (Subtract whole part) = many whole.sort (λ c. whole.count c - part.count c)
    (whole.is_defined && part.is_defined && is_within (colours_of ctx whole.sort) part.count whole.count)
meaning_part ctx b (BlockOf id m) =
    at_place (one_block 0 false) (λ at. one_block (block_with (blocks_at ctx at) m.colour) m.is_defined) (partition_place ctx id)

abbrev pub meaning : Context → Binding → Term → Meaning
meaning ctx b t = fold-Term Meaning (meaning_part ctx b) t

-- how often a colour is in the value of a term, and whether the term has a value
abbrev pub den : Context → Term → Binding → Colour → ℕ
den ctx t b c = (meaning ctx b t).count c

abbrev pub is_defined : Context → Term → Binding → Bool
is_defined ctx t b = (meaning ctx b t).is_defined

-- whether two terms are the same colour, or the same block where they are blocks
abbrev pub is_same_value : Meaning → Meaning → Bool
is_same_value m n = is_same m.colour n.colour && nat_eq m.block n.block

abbrev pub place_of_meaning : Context → Meaning → ℕ
place_of_meaning ctx m = place_in (colours_of ctx m.sort) m.colour

-- comparisons: orders are those of the places in the list of the sort's colours
abbrev pub is_ordered : Context → Order → Meaning → Meaning → Bool
is_ordered ctx order.Equal m n = is_same_value m n
is_ordered ctx order.Unequal m n = not (is_same_value m n)
is_ordered ctx order.Less m n = nat_lt (place_of_meaning ctx m) (place_of_meaning ctx n)
is_ordered ctx order.LessEqual m n = nat_le (place_of_meaning ctx m) (place_of_meaning ctx n)
is_ordered ctx order.Greater m n = nat_lt (place_of_meaning ctx n) (place_of_meaning ctx m)
is_ordered ctx order.GreaterEqual m n = nat_le (place_of_meaning ctx n) (place_of_meaning ctx m)

abbrev pub truth_part : Context → Binding → guard.Guard-F Bool → Bool
truth_part ctx b (guard.Constant value) = value
truth_part ctx b (guard.And parts) = list_all (λ part. part) parts
truth_part ctx b (guard.Or parts) = list_any (λ part. part) parts
truth_part ctx b (guard.Not part) = not part
truth_part ctx b (guard.Imply first second) = not first || second
truth_part ctx b (guard.Compare by m n) = is_ordered ctx by (meaning ctx b m) (meaning ctx b n)

-- the truth of a guard under a binding
abbrev pub truth : Context → Guard → Binding → Bool
truth ctx g b = fold-Guard Bool (truth_part ctx b) g
