-- What a compiled term means under a list of colour indices.
use Rattle.std.specs.Prelude.{◌≡◌, ◌≤◌, ℕ, zero, suc, ◌+◌, ◌-◌, ◌*◌, ◌/◌, ◌%◌, ◌^◌, Bool, true, false, ◌&&◌, ◌||◌, nat_eq, nat_lt, nat_le, if◌then◌else◌, List, [], ◌∷◌, map, length, slice_index, sum_by}
use Rattle.std.specs.List.{list_all, list_any}
use Rattle.wide_sums.specs.declared.rows.Cell.{Cell}
use Rattle.wide_sums.specs.Cells.{amount}
use Rattle.colour_sorts.specs.Places.{before_of, next_of}
use Rattle.multiset_terms.specs.Rows.{total, AreBelow}
use Rattle.multiset_terms.specs.declared.trees.Tree.{Tree, fold-Tree}
use Rattle.multiset_terms.specs.declared.trees.Tree.TheOpen.{Tree-F, Variable, Constant, Next, Before, Tuple, Product, All, Empty, Times, Sum, Minus}

-- a term under a binding: the number of colours of its sort; whether it is one colour, and whether it is that or all colours
-- of a sort; the index of its colour; how often each index is in it, and a bound for all together; whether it has a value,
-- and whether all indices in it are in range
pub record Reading : Type 0 where
  pub size : ℕ
  pub is_colour : Bool
  pub is_choice : Bool
  pub place : ℕ
  pub count : ℕ → ℕ
  pub gross : ℕ
  pub is_defined : Bool
  pub is_sound : Bool

abbrev pub once : Bool → ℕ
once b = if b then 1 else 0

abbrev pub is_between : ℕ → ℕ → ℕ → Bool
is_between from to n = nat_le from n && nat_lt n to

-- the first so many numbers
abbrev pub below : ℕ → List ℕ
below zero = []
below (suc n) = n ∷ below n

-- the largest count, and the largest number of colours
abbrev pub most : ℕ
most = 2 ^ 63 - 1

abbrev pub most_colours : ℕ
most_colours = 2 ^ 20

abbrev pub colour : ℕ → ℕ → Bool → Reading
colour size place is_sound = record {
  size = size;
  is_colour = true;
  is_choice = true;
  place = place;
  count = λ p. once (nat_eq place p);
  gross = 1;
  is_defined = true;
  is_sound = is_sound && nat_lt place size && nat_le size most_colours;
}

abbrev pub multiset : ℕ → (ℕ → ℕ) → ℕ → Bool → Bool → Reading
multiset size count gross is_defined is_sound = record {
  size = size;
  is_colour = false;
  is_choice = false;
  place = 0;
  count = count;
  gross = gross;
  is_defined = is_defined;
  is_sound = is_sound && nat_le gross most;
}

-- the number of tuples, and the index of a tuple behind a front of the index `front`
abbrev pub tuple_size : List Reading → ℕ
tuple_size [] = 1
tuple_size (c ∷ cs) = c.size * tuple_size cs

abbrev pub tuple_place : ℕ → List Reading → ℕ
tuple_place front [] = front
tuple_place front (c ∷ cs) = tuple_place (front * c.size + c.place) cs

-- how often an index is among the tuples of the choices, behind fronts that are there so often
abbrev pub tuple_count : (ℕ → ℕ) → List Reading → ℕ → ℕ
tuple_count fronts [] = fronts
tuple_count fronts (c ∷ cs) = tuple_count (λ p. fronts (p / c.size) * c.count (p % c.size)) cs

-- how often an index is among the tuples of the choices
abbrev pub product_count : List Reading → ℕ → ℕ
product_count cs = tuple_count (λ p. once (nat_eq 0 p)) cs

abbrev pub are_colours : List Reading → Bool
are_colours cs = list_all (λ c. c.is_sound && c.is_colour && c.is_choice && nat_lt c.place c.size) cs

abbrev pub are_choices : List Reading → Bool
are_choices cs = list_all (λ c. c.is_sound && c.is_choice && nat_lt 0 c.size) cs

-- how many tuples the choices give
abbrev pub choices : List Reading → ℕ
choices [] = 1
choices (c ∷ cs) = c.gross * choices cs

abbrev pub are_sound : List Reading → Bool
are_sound cs = list_all (λ c. c.is_sound) cs

abbrev pub are_of_size : ℕ → List Reading → Bool
are_of_size size cs = list_all (λ c. nat_eq c.size size) cs

-- the sums of a list, and whether all of it has values
abbrev pub count_sum : List Reading → ℕ → ℕ
count_sum cs p = sum_by (λ c. c.count p) cs

abbrev pub gross_sum : List Reading → ℕ
gross_sum cs = sum_by (λ c. c.gross) cs

abbrev pub are_defined : List Reading → Bool
are_defined cs = list_all (λ c. c.is_defined) cs

-- at each index at most as much
abbrev pub is_within : ℕ → (ℕ → ℕ) → (ℕ → ℕ) → Bool
is_within size part whole = list_all (λ p. nat_le (part p) (whole p)) (below size)

abbrev pub reading_of_parts : List ℕ → Tree-F Reading → Reading
reading_of_parts binding (Variable size number) = colour size (slice_index binding number) (nat_lt number (length binding))
reading_of_parts binding (Constant size index) = colour size index true
reading_of_parts binding (Next size c) = colour size (next_of size c.place) (c.is_sound && c.is_colour && nat_eq c.size size)
reading_of_parts binding (Before size c) = colour size (before_of size c.place) (c.is_sound && c.is_colour && nat_eq c.size size)
reading_of_parts binding (Tuple size cs) = colour size (tuple_place 0 cs) (are_colours cs && nat_eq (tuple_size cs) size)
reading_of_parts binding (Product size cs) = multiset size (product_count cs) (choices cs) true (are_choices cs && nat_eq (tuple_size cs) size && nat_le size most_colours)
reading_of_parts binding (All size) = record {
  size = size;
  is_colour = false;
  is_choice = true;
  place = 0;
  count = λ p. once (nat_lt p size);
  gross = size;
  is_defined = true;
  is_sound = nat_le size most_colours;
}
reading_of_parts binding (Empty size) = multiset size (λ p. 0) 0 true true
reading_of_parts binding (Times n c) = multiset c.size (λ p. n * c.count p) (n * c.gross) c.is_defined c.is_sound
reading_of_parts binding (Sum size cs) = multiset size (count_sum cs) (gross_sum cs) (are_defined cs) (are_sound cs && are_of_size size cs)
reading_of_parts binding (Minus a c) = multiset a.size (λ p. a.count p - c.count p) (a.gross + c.gross)
    (a.is_defined && c.is_defined && is_within a.size c.count a.count)
    (a.is_sound && c.is_sound && nat_eq a.size c.size)

abbrev pub reading : List ℕ → Tree → Reading
reading binding tree = fold-Tree Reading (reading_of_parts binding) tree

abbrev pub readings : List ℕ → List Tree → List Reading
readings binding trees = map (reading binding) trees

-- whether the variable of a number occurs
abbrev pub uses_part : ℕ → Tree-F Bool → Bool
uses_part variable (Variable _ number) = nat_eq number variable
uses_part variable (Constant _ _) = false
uses_part variable (Next _ part) = part
uses_part variable (Before _ part) = part
uses_part variable (Tuple _ parts) = list_any (λ part. part) parts
uses_part variable (Product _ parts) = list_any (λ part. part) parts
uses_part variable (All _) = false
uses_part variable (Empty _) = false
uses_part variable (Times _ part) = part
uses_part variable (Sum _ parts) = list_any (λ part. part) parts
uses_part variable (Minus whole part) = whole || part

abbrev pub uses_at : ℕ → Tree → Bool
uses_at variable tree = fold-Tree Bool (uses_part variable) tree

abbrev pub some_use : ℕ → List Tree → Bool
some_use variable trees = list_any (λ part. part) (map (uses_at variable) trees)

-- a row of all tuples of the choices
pub record HasTuples (rs : List Reading) (row : List Cell) : Type 0 where
  pub counts : (p : ℕ) → amount p row ≡ product_count rs p
  pub elements : total row ≤ choices rs
  pub inside : AreBelow (tuple_size rs) row

-- a row with the choices of one more component
pub record IsExtended (r : Reading) (fronts : List Cell) (row : List Cell) : Type 0 where
  pub counts : (p : ℕ) → amount p row ≡ amount (p / r.size) fronts * r.count (p % r.size)
  pub elements : total row ≡ total fronts * r.gross
  pub inside : (lead : ℕ) → AreBelow lead fronts → AreBelow (lead * r.size) row
