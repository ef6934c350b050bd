-- When a compiled term says of the places in a list of colours what the written one says of the colours.
use Rattle.std.specs.Prelude.{◌≡◌, ◌+◌, ◌*◌, ◌<◌, ◌≤◌, slice_index, if◌then◌else◌, ℕ, true, List, [], ◌∷◌, length, map, Some, slice_get}
use Rattle.colour_sorts.specs.declared.sorts.Sort.{Sort}
use Rattle.colour_sorts.specs.declared.sorts.Colour.{Colour}
use Rattle.colour_sorts.specs.Colours.{tuple, tuples}
use Rattle.net_model.specs.declared.terms.Term.TheOpen as written
use Rattle.multiset_terms.specs.declared.trees.Tree.TheOpen as tree
use Rattle.multiset_terms.specs.Context.{Context}
use Rattle.multiset_terms.specs.Trees.{Reading, choices, gross_sum, most, reading_of_parts}
use Rattle.multiset_terms.specs.Values.{Binding, Meaning, colours_of, is_same, many, meaning_part, one_colour}

pub record IsAgreed (colours : List Colour) (m : Meaning) (r : Reading) : Type 0 where
  pub sound : r.is_sound ≡ true
  pub defined : r.is_defined ≡ m.is_defined
  pub size : r.size ≡ length colours
  pub counts : (at : ℕ) (c : Colour) → slice_get colours at ≡ Some c → r.count at ≡ m.count c

-- the same of a term that is one colour
pub record IsOneColour (colours : List Colour) (m : Meaning) (r : Reading) : Type 0 where
  pub agreed : IsAgreed colours m r
  pub is_colour : r.is_colour ≡ true
  pub is_choice : r.is_choice ≡ true
  pub is_defined : m.is_defined ≡ true
  pub place : slice_get colours r.place ≡ Some m.colour
  pub counted : (c : Colour) → m.count c ≡ (if is_same m.colour c then 1 else 0)

abbrev pub AreAgreed : List Colour → List Meaning → List Reading → Type 0
AreAgreed colours [] [] = Unit {0}
AreAgreed colours (m ∷ ms) (r ∷ rs) = IsAgreed colours m r × AreAgreed colours ms rs
AreAgreed colours _ _ = ⊥

-- the components of a tuple, each over the list of its sort's colours: one colour each, or one or all colours each
abbrev pub AreOneColours : List (List Colour) → List Meaning → List Reading → Type 0
AreOneColours [] [] [] = Unit {0}
AreOneColours (colours ∷ lists) (m ∷ ms) (r ∷ rs) = IsOneColour colours m r × AreOneColours lists ms rs
AreOneColours _ _ _ = ⊥

pub record IsChoice (colours : List Colour) (m : Meaning) (r : Reading) : Type 0 where
  pub agreed : IsAgreed colours m r
  pub is_choice : r.is_choice ≡ true
  pub is_defined : m.is_defined ≡ true
  pub some : 0 < length colours

abbrev pub AreChoices : List (List Colour) → List Meaning → List Reading → Type 0
AreChoices [] [] [] = Unit {0}
AreChoices (colours ∷ lists) (m ∷ ms) (r ∷ rs) = IsChoice colours m r × AreChoices lists ms rs
AreChoices _ _ _ = ⊥

-- one node of a term, over terms that agree
pub record NodesAgree (ctx : Context) (b : Binding) (indices : List ℕ) (colours : List Colour) : Type 0 where
  pub variable : (s : Sort) (number : ℕ) (c : Colour) → number < length indices → slice_get colours (slice_index indices number) ≡ Some c
      → IsOneColour colours (one_colour s c true) (reading_of_parts indices (tree.Variable (length colours) number))
  pub constant : (s : Sort) (index : ℕ) (c : Colour) → slice_get colours index ≡ Some c
      → IsOneColour colours (one_colour s c true) (reading_of_parts indices (tree.Constant (length colours) index))
  pub every : (s : Sort) → IsAgreed colours (many s (λ _. 1) true) (reading_of_parts indices (tree.All (length colours)))
  pub empty : (s : Sort) → IsAgreed colours (many s (λ _. 0) true) (reading_of_parts indices (tree.Empty (length colours)))
  pub next : (m : Meaning) (r : Reading) → colours_of ctx m.sort ≡ colours → IsOneColour colours m r
      → IsOneColour colours (meaning_part ctx b (written.Successor m)) (reading_of_parts indices (tree.Next (length colours) r))
  pub before : (m : Meaning) (r : Reading) → colours_of ctx m.sort ≡ colours → IsOneColour colours m r
      → IsOneColour colours (meaning_part ctx b (written.Predecessor m)) (reading_of_parts indices (tree.Before (length colours) r))
  pub times : (n : ℕ) (m : Meaning) (r : Reading) → IsAgreed colours m r → n * r.gross ≤ most
      → IsAgreed colours (meaning_part ctx b (written.Scalar n m)) (reading_of_parts indices (tree.Times n r))
  pub sum : (ms : List Meaning) (rs : List Reading) → AreAgreed colours ms rs → gross_sum rs ≤ most
      → IsAgreed colours (meaning_part ctx b (written.Add ms)) (reading_of_parts indices (tree.Sum (length colours) rs))
  pub difference : (m n : Meaning) (r q : Reading) → colours_of ctx m.sort ≡ colours → IsAgreed colours m r → IsAgreed colours n q → r.gross + q.gross ≤ most
      → IsAgreed colours (meaning_part ctx b (written.Subtract m n)) (reading_of_parts indices (tree.Minus r q))

-- a node over the tuples of colours of some lists
pub record TupleNodesAgree (ctx : Context) (b : Binding) (indices : List ℕ) (lists : List (List Colour)) : Type 0 where
  pub tuple_node : (ms : List Meaning) (rs : List Reading) → AreOneColours lists ms rs
      → IsOneColour (map tuple (tuples lists)) (meaning_part ctx b (written.Tuple ms)) (reading_of_parts indices (tree.Tuple (length (tuples lists)) rs))
  pub product_node : (ms : List Meaning) (rs : List Reading) → AreChoices lists ms rs → choices rs ≤ most
      → IsAgreed (map tuple (tuples lists)) (meaning_part ctx b (written.Tuple ms)) (reading_of_parts indices (tree.Product (length (tuples lists)) rs))
