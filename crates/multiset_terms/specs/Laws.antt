-- Laws of the definitions.
use Rattle.std.specs.Prelude.{◌≡◌, ◌≤◌, ℕ, List, [], ◌∷◌, length, map, Some, slice_get, nat_eq, if◌then◌else◌}
use Rattle.std.specs.Bool.{Decides}
use Rattle.colour_sorts.specs.declared.sorts.Colour.{Colour}
use Rattle.colour_sorts.specs.declared.sorts.Sort.{Sort}
use Rattle.colour_sorts.specs.Colours.{colours, constants_at, tuple, tuples}
use Rattle.colour_sorts.specs.Places.{before_of, next_of}
use Rattle.multiset_terms.specs.Agreeing.{NodesAgree, TupleNodesAgree}
use Rattle.multiset_terms.specs.Context.{Context}
use Rattle.multiset_terms.specs.Trees.{Reading, most_colours, once, product_count}
use Rattle.multiset_terms.specs.Values.{Binding, Meaning, counts_at, is_same, place_in, stepped}

-- the test is true of two colours exactly where they are the same
abbrev pub ColoursAreToldApart : Type 0
ColoursAreToldApart = (a b : Colour) → Decides (is_same a b) (a ≡ b)

-- a list in which each value stands at one place
abbrev pub IsOnce : {X : Type 0} → List X → Type 0
IsOnce xs = (i j : ℕ) (x : _) → slice_get xs i ≡ Some x → slice_get xs j ≡ Some x → i ≡ j

-- where constants are distinct, each colour of a sort has one number
abbrev pub ColoursStandOnce : Type 0
ColoursStandOnce = (constants : List (List (List ℕ))) → ((at : ℕ) → IsOnce (constants_at constants at)) → (s : Sort) → IsOnce (colours constants s)

-- readings and meanings of the components of a tuple, over the lists of their sorts' colours
pub record IsComponent (colours : List Colour) (m : Meaning) (r : Reading) : Type 0 where
  pub size : r.size ≡ length colours
  pub counts : (at : ℕ) (c : Colour) → slice_get colours at ≡ Some c → r.count at ≡ m.count c

abbrev pub AreComponents : List (List Colour) → List Meaning → List Reading → Type 0
AreComponents [] [] [] = Unit {0}
AreComponents (colours ∷ lists) (m ∷ ms) (r ∷ rs) = IsComponent colours m r × AreComponents lists ms rs
AreComponents _ _ _ = ⊥

-- a compiled tuple has at the place of a tuple of colours what the written one has of it
abbrev pub TuplesAgree : Type 0
TuplesAgree = (lists : List (List Colour)) (ms : List Meaning) (rs : List Reading) (at : ℕ) (t : List Colour)
    → AreComponents lists ms rs → slice_get (tuples lists) at ≡ Some t → product_count rs at ≡ counts_at ms t

-- a compiled colour has at the place of a colour what the written one has of it; and a compiled step leads to the place of the
-- colour that the written one leads to
pub record ColoursAgree (cs : List Colour) : Type 0 where
  pub counts : (p i : ℕ) (a c : Colour) → slice_get cs p ≡ Some a → slice_get cs i ≡ Some c → once (nat_eq p i) ≡ (if is_same a c then 1 else 0)
  pub places : (p : ℕ) (c : Colour) → slice_get cs p ≡ Some c → place_in cs c ≡ p
  pub next : (p : ℕ) (c : Colour) → slice_get cs p ≡ Some c → slice_get cs (next_of (length cs) p) ≡ Some (stepped next_of cs c)
  pub before : (p : ℕ) (c : Colour) → slice_get cs p ≡ Some c → slice_get cs (before_of (length cs) p) ≡ Some (stepped before_of cs c)

abbrev pub ListsAgree : Type 0
ListsAgree = (cs : List Colour) → IsOnce cs → ColoursAgree cs

-- over the list of a sort's colours, nodes of compiled terms agree with those of written ones
abbrev pub AllNodesAgree : Type 0
AllNodesAgree = (ctx : Context) (b : Binding) (indices : List ℕ) (colours : List Colour) → IsOnce colours → length colours ≤ most_colours → NodesAgree ctx b indices colours

abbrev pub AllTupleNodesAgree : Type 0
AllTupleNodesAgree = (ctx : Context) (b : Binding) (indices : List ℕ) (lists : List (List Colour)) → IsOnce (map tuple (tuples lists)) → length (tuples lists) ≤ most_colours
    → TupleNodesAgree ctx b indices lists
