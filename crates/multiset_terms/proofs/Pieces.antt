-- Compiled children of a node and what they add up to.
use Rattle.std.proofs.Common.{◌≡◌, ℕ, zero, suc, ◌+◌, ◌-◌, ◌*◌, ◌≤◌, ◌^◌, min, inl, inr, Bool, true, false, List, [], ◌∷◌, ◌++◌, map, refl, sym, ap, ◌∙◌, arith, Option, None, Some}
use Rattle.std.specs.Prelude.{Result, Ok, not, ◌&&◌, nat_eq, nat_lt, slice_get, sum_by, if◌then◌else◌}
use Rattle.std.specs.List.{list_all, list_any}
use Rattle.std.proofs.Math.Nat.{mul_comm, mul_assoc}
use Rattle.std.proofs.lemmas.Bool.{cases_eq, cases_lt}
use Rattle.std.proofs.lemmas.Bool.Decides.{nat_tests}
use Rattle.std.proofs.lemmas.List.{map-append}
use Rattle.std.proofs.lemmas.List.Folds.{list_all-append}
use Rattle.std.proofs.lemmas.List.Sums.{sum_by-append, sum_by-cons}
use Rattle.colour_sorts.specs.declared.rules.Rule.{Rule}
use Rattle.colour_sorts.specs.declared.sorts.Sort.{Sort}
use Rattle.multiset_terms.specs.declared.kinds.Kind.{Kind}
use Rattle.multiset_terms.specs.declared.parts.Children.{Children}
use Rattle.multiset_terms.specs.declared.parts.Part.{Part}
use Rattle.multiset_terms.specs.declared.parts.Totals.{Totals}
use Rattle.net_model.specs.declared.terms.Term.{Term}
use Rattle.multiset_terms.specs.declared.trees.Tree.{Tree}
use Rattle.multiset_terms.specs.Context.{Context}
use Rattle.multiset_terms.specs.Parts.{AreParts, IsCounted, IsPart, PartValue, Piece, behind, children_of, either, first_size, heavy_over, heavy_part, kinds_of, terms_of, told, totals_of, with_child, with_part}
use Rattle.multiset_terms.specs.Standing.{Binds, occurs}
use Rattle.multiset_terms.specs.Trees.{reading, uses_at}
use Rattle.multiset_terms.specs.Typing.{children, in_front, judged, looked_at, node, at_root, sort_of_kind, is_colour, is_choice, is_block}
use Rattle.multiset_terms.specs.Values.{Binding, meaning}
use Rattle.multiset_terms.specs.Weights.{Weighed, heavy_child, heavy_first, product, weighed, weighed_node}

-- caps
pub min-times : (n g w : ℕ) → min (n * min g w) w ≡ min (n * g) w
min-times zero g w = omega arith
min-times (suc n) g w =
    elim (cases_lt w g) [
      | inl large ↦
          let small : min g w ≡ w = omega arith in
          let first : suc n * w ≡ w + n * w = omega arith in
          let second : suc n * g ≡ g + n * g = omega arith in
          rw small (omega (arith, first, second))
      | inr fits ↦ let same : min g w ≡ g = omega arith in rw same refl
    ]

times-min : (g n w : ℕ) → min (min g w * n) w ≡ min (g * n) w
times-min g n w = ap (λ x. min x w) (mul_comm (min g w) n) ∙ min-times n g w ∙ ap (λ x. min x w) (mul_comm n g)

-- products whose factors are told alike
pub times-told : (a b p q w : ℕ) → min a w ≡ b → min p w ≡ min q w → min (a * p) w ≡ min (b * q) w
times-told a b p q w first second =
    sym (min-times a p w) ∙ ap (λ x. min (a * x) w) second ∙ min-times a q w ∙ sym (times-min a q w) ∙ ap (λ x. min (x * q) w) first

pub plus-told : (a b p q w : ℕ) → min a w ≡ b → min p w ≡ min q w → min (a + p) w ≡ min (b + q) w
plus-told a b p q w first second = omega arith

min-plus : (s g w : ℕ) → min (min s w + g) w ≡ min (s + g) w
min-plus s g w = omega arith

-- one more at the end
sum-snoc : {X : Type 0} (f : X → ℕ) (xs : List X) (x : X) → sum_by f (xs ++ x ∷ []) ≡ sum_by f xs + f x
sum-snoc f xs x = sum_by-append f xs (x ∷ []) ∙ ap (λ n. sum_by f xs + n) (sum_by-cons f x [] ∙ omega arith)

product-snoc : (ns : List ℕ) (n : ℕ) → product (ns ++ n ∷ []) ≡ product ns * n
product-snoc [] n = omega arith
product-snoc (m ∷ ns) n = ap (λ x. m * x) (product-snoc ns n) ∙ sym (mul_assoc m (product ns) n)

all-snoc : {X : Type 0} (p : X → Bool) (xs : List X) (x : X) → list_all p (xs ++ x ∷ []) ≡ (list_all p xs && p x)
all-snoc p xs x = list_all-append p xs (x ∷ []) ∙ ap (λ b. list_all p xs && b) (and-one (p x))
  where
    and-one : (b : Bool) → (b && true) ≡ b
    and-one true = refl
    and-one false = refl

heavy-snoc : (at : ℕ) (xs : List Piece) (x : Piece) → heavy_part at (xs ++ x ∷ []) ≡ either (heavy_part at xs) (behind (at + sum_by (λ y. y.part.nodes) xs) x.part.heavy)
heavy-snoc at [] x = last x.part.heavy
  where
    last : (heavy : Option ℕ) → heavy_first heavy at None ≡ behind (at + 0) heavy
    last None = refl
    last (Some n) = ap (λ m. Some (m + n)) (omega arith)
heavy-snoc at (y ∷ ys) x =
    ap (heavy_first y.part.heavy at) (heavy-snoc (at + y.part.nodes) ys x)
    ∙ further y.part.heavy (heavy_part (at + y.part.nodes) ys) (behind (at + y.part.nodes + sum_by (λ z. z.part.nodes) ys) x.part.heavy)
    ∙ ap (λ n. either (heavy_first y.part.heavy at (heavy_part (at + y.part.nodes) ys)) (behind n x.part.heavy)) (omega (arith, sum_by-cons (λ z. z.part.nodes) y ys))
  where
    further : (heavy a b : Option ℕ) → heavy_first heavy at (either a b) ≡ either (heavy_first heavy at a) b
    further None a b = refl
    further (Some n) a b = refl

abbrev totals-from : ℕ → ℕ → ℕ → ℕ → ℕ → Option ℕ → Totals
totals-from a b c d e h = record { nodes = a; gross_sum = b; gross_product = c; support_sum = d; support_product = e; heavy = h }

pub totals-snoc : (xs : List Piece) (x : Piece) → with_part (totals_of xs) x.part ≡ totals_of (xs ++ x ∷ [])
totals-snoc xs x = cong-totals
    (one-more (sum_by (λ y. y.part.nodes) xs) x.part.nodes ∙ sym (ap suc (sum-snoc (λ y. y.part.nodes) xs x)))
    (min-plus (sum_by (λ y. y.part.gross) xs) x.part.gross (2 ^ 63) ∙ ap told (sym (sum-snoc (λ y. y.part.gross) xs x)))
    (times-min (product (map (λ y. y.part.gross) xs)) x.part.gross (2 ^ 63) ∙ ap told (sym (product-snoc (map (λ y. y.part.gross) xs) x.part.gross) ∙ ap product (sym (map-append (λ y. y.part.gross) xs (x ∷ [])))))
    (min-plus (sum_by (λ y. y.part.support) xs) x.part.support (2 ^ 63) ∙ ap told (sym (sum-snoc (λ y. y.part.support) xs x)))
    (times-min (product (map (λ y. y.part.support) xs)) x.part.support (2 ^ 63) ∙ ap told (sym (product-snoc (map (λ y. y.part.support) xs) x.part.support) ∙ ap product (sym (map-append (λ y. y.part.support) xs (x ∷ [])))))
    (ap (λ n. either (heavy_part 1 xs) (behind n x.part.heavy)) (from-one (sum_by (λ y. y.part.nodes) xs)) ∙ sym (heavy-snoc 1 xs x))
  where
    one-more : (s n : ℕ) → suc s + n ≡ suc (s + n)
    one-more s n = omega arith

    from-one : (s : ℕ) → suc s ≡ 1 + s
    from-one s = omega arith

    cong-totals : {a b c d e a' b' c' d' e' : ℕ} {h h' : Option ℕ} → a ≡ a' → b ≡ b' → c ≡ c' → d ≡ d' → e ≡ e' → h ≡ h'
        → totals-from a b c d e h ≡ totals-from a' b' c' d' e' h'
    cong-totals p q r s t u = rw (p, q, r, s, t, u) refl

first-snoc : (xs : List Piece) (x : Piece) → first_size (xs ++ x ∷ []) ≡ (if nat_eq (first_size xs) 0 then x.part.size else first_size xs)
first-snoc [] x = grind (arith, nat_tests)
first-snoc (y ∷ ys) x =
    elim (cases_eq y.part.size 0) [
      | inl none ↦ rw none (first-snoc ys x)
      | inr some ↦ let test : nat_eq y.part.size 0 ≡ false = grind (arith, nat_tests) in rw (test, test) refl
    ]

abbrev children-from : List Tree → List Sort → Bool → Bool → Bool → ℕ → ℕ → Totals → Children
children-from a b c d e h f g = record { trees = a; sorts = b; are_colours = c; are_choices = d; are_multisets = e; first = h; size = f; totals = g }

-- children are gathered one by one
pub children-snoc : (xs : List Piece) (x : Piece) → with_child (children_of xs) x.part ≡ children_of (xs ++ x ∷ [])
children-snoc xs x = cong-children
    (sym (map-append (λ y. y.part.tree) xs (x ∷ [])))
    (sym (map-append (λ y. sort_of_kind y.part.kind) xs (x ∷ [])))
    (sym (all-snoc (λ y. is_colour y.part.kind) xs x))
    (sym (all-snoc (λ y. is_choice y.part.kind) xs x))
    (sym (all-snoc (λ y. not (is_block y.part.kind)) xs x))
    (sym (first-snoc xs x))
    (times-min (product (map (λ y. y.part.size) xs)) x.part.size (2 ^ 21)
    ∙ ap (λ n. min n (2 ^ 21)) (sym (product-snoc (map (λ y. y.part.size) xs) x.part.size) ∙ ap product (sym (map-append (λ y. y.part.size) xs (x ∷ [])))))
    (totals-snoc xs x)
  where
    cong-children : {a a' : List Tree} {b b' : List Sort} {c c' d d' e e' : Bool} {h h' f f' : ℕ} {g g' : Totals} → a ≡ a' → b ≡ b' → c ≡ c' → d ≡ d' → e ≡ e' → h ≡ h' → f ≡ f' → g ≡ g'
        → children-from a b c d e h f g ≡ children-from a' b' c' d' e' h' f' g'
    cong-children p q r t u z v w = rw (p, q, r, t, u, z, v, w) refl

pub parts-snoc : (ctx : Context) (marking : Bool) (xs : List Piece) (x : Piece) → AreParts ctx marking xs → IsPart ctx marking x.term x.part → AreParts ctx marking (xs ++ x ∷ [])
parts-snoc ctx marking [] x known last = (last, tt)
parts-snoc ctx marking (y ∷ ys) x known last = (known.0, parts-snoc ctx marking ys x known.1 last)

-- what is known of all children
pub kinds-known : (ctx : Context) (marking : Bool) (at : ℕ) (xs : List Piece) → AreParts ctx marking xs → children at (map (judged ctx marking) (terms_of xs)) ≡ Ok (kinds_of xs)
kinds-known ctx marking at [] known = refl
kinds-known ctx marking at (x ∷ xs) known =
    let rest = kinds-known ctx marking (at + (judged ctx marking x.term).nodes) xs known.1 in
    ap (λ v. in_front at v (children (at + (judged ctx marking x.term).nodes) (map (judged ctx marking) (terms_of xs)))) known.0.counted.typed
    ∙ ap (in_front at (Ok x.part.kind)) rest

pub nodes-known : (ctx : Context) (marking : Bool) (xs : List Piece) → AreParts ctx marking xs
    → sum_by (λ c. c.nodes) (map (judged ctx marking) (terms_of xs)) ≡ sum_by (λ x. x.part.nodes) xs
nodes-known ctx marking [] known = refl
nodes-known ctx marking (x ∷ xs) known =
    sum_by-cons (λ c. c.nodes) (judged ctx marking x.term) (map (judged ctx marking) (terms_of xs))
    ∙ ap (λ n. n + sum_by (λ c. c.nodes) (map (judged ctx marking) (terms_of xs))) known.0.counted.nodes
    ∙ ap (λ n. x.part.nodes + n) (nodes-known ctx marking xs known.1)
    ∙ sym (sum_by-cons (λ y. y.part.nodes) x xs)

weighed-known : (ctx : Context) (marking : Bool) (xs : List Piece) → AreParts ctx marking xs
    → sum_by (λ c. c.nodes) (map (weighed ctx) (terms_of xs)) ≡ sum_by (λ x. x.part.nodes) xs
weighed-known ctx marking [] known = refl
weighed-known ctx marking (x ∷ xs) known =
    sum_by-cons (λ c. c.nodes) (weighed ctx x.term) (map (weighed ctx) (terms_of xs))
    ∙ ap (λ n. n + sum_by (λ c. c.nodes) (map (weighed ctx) (terms_of xs))) known.0.counted.weighed_nodes
    ∙ ap (λ n. x.part.nodes + n) (weighed-known ctx marking xs known.1)
    ∙ sym (sum_by-cons (λ y. y.part.nodes) x xs)

heavy-known : (ctx : Context) (marking : Bool) (at : ℕ) (xs : List Piece) → AreParts ctx marking xs → heavy_child at (map (weighed ctx) (terms_of xs)) ≡ heavy_part at xs
heavy-known ctx marking at [] known = refl
heavy-known ctx marking at (x ∷ xs) known =
    ap (λ h. heavy_first h at (heavy_child (at + (weighed ctx x.term).nodes) (map (weighed ctx) (terms_of xs)))) known.0.counted.heavy_node
    ∙ ap (λ n. heavy_first x.part.heavy at (heavy_child (at + n) (map (weighed ctx) (terms_of xs)))) known.0.counted.weighed_nodes
    ∙ ap (heavy_first x.part.heavy at) (heavy-known ctx marking (at + x.part.nodes) xs known.1)

-- a weight that a part tells
abbrev pub Tells : Context → Bool → (Weighed → ℕ) → (Part → ℕ) → Type 0
Tells ctx marking f g = (t : Term) (p : Part) → IsPart ctx marking t p → min (f (weighed ctx t)) (2 ^ 63) ≡ g p

pub gross-told : (ctx : Context) (marking : Bool) → Tells ctx marking (λ w. w.gross) (λ p. p.gross)
gross-told ctx marking t p known = known.counted.gross_total

pub support-told : (ctx : Context) (marking : Bool) → Tells ctx marking (λ w. w.support) (λ p. p.support)
support-told ctx marking t p known = known.counted.support_total

pub sums-told : (ctx : Context) (marking : Bool) (f : Weighed → ℕ) (g : Part → ℕ) → Tells ctx marking f g → (xs : List Piece) → AreParts ctx marking xs
    → min (sum_by f (map (weighed ctx) (terms_of xs))) (2 ^ 63) ≡ min (sum_by (λ x. g x.part) xs) (2 ^ 63)
sums-told ctx marking f g tells [] known = refl
sums-told ctx marking f g tells (x ∷ xs) known =
    ap told (sum_by-cons f (weighed ctx x.term) (map (weighed ctx) (terms_of xs)))
    ∙ plus-told (f (weighed ctx x.term)) (g x.part) (sum_by f (map (weighed ctx) (terms_of xs))) (sum_by (λ y. g y.part) xs) (2 ^ 63) (tells x.term x.part known.0) (sums-told ctx marking f g tells xs known.1)
    ∙ ap told (sym (sum_by-cons (λ y. g y.part) x xs))

pub products-told : (ctx : Context) (marking : Bool) (f : Weighed → ℕ) (g : Part → ℕ) → Tells ctx marking f g → (xs : List Piece) → AreParts ctx marking xs
    → min (product (map f (map (weighed ctx) (terms_of xs)))) (2 ^ 63) ≡ min (product (map (λ x. g x.part) xs)) (2 ^ 63)
products-told ctx marking f g tells [] known = refl
products-told ctx marking f g tells (x ∷ xs) known =
    times-told (f (weighed ctx x.term)) (g x.part) (product (map f (map (weighed ctx) (terms_of xs)))) (product (map (λ y. g y.part) xs)) (2 ^ 63)
    (tells x.term x.part known.0) (products-told ctx marking f g tells xs known.1)

-- a node over children
heavy-test : (g told : ℕ) → min g (2 ^ 63) ≡ told → nat_lt (2 ^ 63 - 1) g ≡ nat_lt (2 ^ 63 - 1) told
heavy-test g told is = grind (arith, nat_tests)

pub record IsNode (ctx : Context) (marking : Bool) (t : Term) (judge : List Kind → Result Kind Rule) (gross : ℕ) (support : ℕ) (xs : List Piece) : Type 0 where
  pub judges : judged ctx marking t ≡ node judge (map (judged ctx marking) (terms_of xs))
  pub weighs : weighed ctx t ≡ weighed_node gross support (map (weighed ctx) (terms_of xs))

pub verdict-node : (ctx : Context) (marking : Bool) (t : Term) (judge : List Kind → Result Kind Rule) (gross support : ℕ) (xs : List Piece)
    → IsNode ctx marking t judge gross support xs → AreParts ctx marking xs → (judged ctx marking t).verdict ≡ at_root (judge (kinds_of xs))
verdict-node ctx marking t judge gross support xs is known = ap (λ j. j.verdict) is.judges ∙ ap (looked_at judge) (kinds-known ctx marking 1 xs known)

pub record IsLight (gross : ℕ) (child : Option ℕ) : Type 0 where
  pub fits : gross ≤ 2 ^ 63 - 1
  pub none : child ≡ None

pub light : (gross : ℕ) (child : Option ℕ) → heavy_over gross child ≡ None → IsLight gross child
light gross None h = record { fits = grind (arith, nat_tests); none = refl }
light gross (Some n) h = absurd (grind (arith, nat_tests))

pub node-counted : (ctx : Context) (marking : Bool) (t : Term) (judge : List Kind → Result Kind Rule) (gross support : ℕ) (xs : List Piece) (new : Part)
    → IsNode ctx marking t judge gross support xs → AreParts ctx marking xs
    → judge (kinds_of xs) ≡ Ok new.kind → new.nodes ≡ (totals_of xs).nodes → min gross (2 ^ 63) ≡ new.gross → min support (2 ^ 63) ≡ new.support
    → new.heavy ≡ heavy_over new.gross (totals_of xs).heavy → IsCounted ctx marking t new
node-counted ctx marking t judge gross support xs new is known kind nodes gross_is support_is heavy = record {
  typed = verdict-node ctx marking t judge gross support xs is known ∙ ap at_root kind;
  nodes = ap (λ j. j.nodes) is.judges ∙ ap suc (nodes-known ctx marking xs known) ∙ sym nodes;
  weighed_nodes = ap (λ w. w.nodes) is.weighs ∙ ap suc (weighed-known ctx marking xs known) ∙ sym nodes;
  gross_total = ap (λ w. min w.gross (2 ^ 63)) is.weighs ∙ gross_is;
  support_total = ap (λ w. min w.support (2 ^ 63)) is.weighs ∙ support_is;
  heavy_node = ap (λ w. w.heavy) is.weighs
      ∙ ap (λ test. if test then Some 0 else heavy_child 1 (map (weighed ctx) (terms_of xs))) (heavy-test gross new.gross gross_is)
      ∙ ap (λ child. if nat_lt (2 ^ 63 - 1) new.gross then Some 0 else child) (heavy-known ctx marking 1 xs known)
      ∙ sym heavy;
  light = λ none. (light new.gross (totals_of xs).heavy (sym heavy ∙ none)).fits;
}

-- the variables of children
pub some-use : (ctx : Context) (marking : Bool) (xs : List Piece) → AreParts ctx marking xs → (at : ℕ) (id : List ℕ) → slice_get ctx.variables.ids at ≡ Some id
    → list_any (λ part. part) (map (uses_at at) (map (λ x. x.part.tree) xs)) ≡ list_any (λ part. part) (map (occurs id) (terms_of xs))
some-use ctx marking [] known at id here = refl
some-use ctx marking (x ∷ xs) known at id here = rw (known.0.variables at id here, some-use ctx marking xs known.1 at id here) refl

-- the values of children without a heavy node
pub record AreNone (heavy : Option ℕ) (more : Option ℕ) : Type 0 where
  pub first : heavy ≡ None
  pub others : more ≡ None

none-first : (first : Option ℕ) (at : ℕ) (others : Option ℕ) → heavy_first first at others ≡ None → AreNone first others
none-first None at others h = record { first = refl; others = h }
none-first (Some n) at others h = absurd (cc)

abbrev pub AreValues : Context → Binding → List ℕ → List Piece → Type 0
AreValues ctx b indices [] = Unit {0}
AreValues ctx b indices (x ∷ xs) = PartValue ctx x.part.block x.part.kind (weighed ctx x.term).gross (meaning ctx b x.term) (reading indices x.part.tree) × AreValues ctx b indices xs

pub values-known : (ctx : Context) (marking : Bool) (b : Binding) (indices : List ℕ) → Binds ctx b indices → (at : ℕ) (xs : List Piece) → AreParts ctx marking xs → heavy_part at xs ≡ None
    → AreValues ctx b indices xs
values-known ctx marking b indices binds at [] known h = tt
values-known ctx marking b indices binds at (x ∷ xs) known h =
    let none = none-first x.part.heavy at (heavy_part (at + x.part.nodes) xs) h in
    (known.0.values b indices binds none.first, values-known ctx marking b indices binds (at + x.part.nodes) xs known.1 none.others)

pub few : (a g told : ℕ) → a ≡ g → min g (2 ^ 63) ≡ told → told ≤ 2 ^ 63 - 1 → a ≤ 2 ^ 63 - 1
few a g told same is h = omega arith
