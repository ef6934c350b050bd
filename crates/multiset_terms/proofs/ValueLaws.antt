-- Facts about values of trees.
use Rattle.std.proofs.Common.{◌≡◌, subst, ℕ, zero, suc, ◌+◌, ◌*◌, ◌/◌, ◌%◌, ◌<◌, ◌≤◌, ◌^◌, inl, inr, Bool, true, false, List, [], ◌∷◌, ◌++◌, length, take, get_or, refl, ap, sym, ◌∙◌, arith}
use Rattle.std.specs.Prelude.{IfOk, Result, Ok, Err, ◌&&◌, nat_eq, nat_lt, nat_le}
use Rattle.std.proofs.lemmas.Bool.{cases_eq}
use Rattle.std.proofs.lemmas.Bool.Decides.{nat_tests}
use Rattle.wide_sums.specs.declared.rows.Cell.{Cell}
use Rattle.wide_sums.specs.Cells.{amount}
use Rattle.std.proofs.Math.Nat.{mul_assoc, mul-le-mul_left, mul-le-mul_right}
use Rattle.std.proofs.lemmas.List.{map-append, take_more}
use Rattle.multiset_terms.specs.declared.trees.Tree.{Tree, fold_out-Tree, fold-roll-Tree}
use Rattle.multiset_terms.specs.declared.trees.Tree.TheOpen.{Tree-F, Variable, Constant, Next, Before, Tuple, Product, All, Empty, Times, Sum, Minus}
use Rattle.multiset_terms.specs.declared.trees.Tree.TheVariants as tree
use Rattle.multiset_terms.specs.Rows.{AreBelow, AreFronts, IsRowOf, total}
use Rattle.multiset_terms.specs.Trees.{Reading, HasTuples, IsExtended, are_choices, choices, tuple_count, tuple_size, are_of_size, are_sound, gross_sum, is_within, most, once, reading, reading_of_parts, readings}
use Rattle.multiset_terms.proofs.Fronts.{room-below}
use Rattle.multiset_terms.proofs.Readings.{and-true}

le-of-test : (a b : ℕ) → nat_le a b ≡ true → a ≤ b
le-of-test a b h = grind (arith, nat_tests)

test-of-le : (a b : ℕ) → a ≤ b → nat_le a b ≡ true
test-of-le a b h = grind (arith, nat_tests)

pub and-false : (a b : Bool) → b ≡ false → (a && b) ≡ false
and-false true b h = h
and-false false b h = refl

-- what one colour has
pub record IsOne (r : Reading) : Type 0 where
  pub counts : (p : ℕ) → r.count p ≡ once (nat_eq r.place p)
  pub gross : r.gross ≡ 1
  pub defined : r.is_defined ≡ true

one-layer : (b : List ℕ) (l : Tree-F Reading) → (reading_of_parts b l).is_colour ≡ true → IsOne (reading_of_parts b l)
one-layer b (Variable size number) h = record { counts = λ p. refl; gross = refl; defined = refl }
one-layer b (Constant size index) h = record { counts = λ p. refl; gross = refl; defined = refl }
one-layer b (Next size c) h = record { counts = λ p. refl; gross = refl; defined = refl }
one-layer b (Before size c) h = record { counts = λ p. refl; gross = refl; defined = refl }
one-layer b (Tuple size cs) h = record { counts = λ p. refl; gross = refl; defined = refl }
one-layer b (Product size cs) h = absurd (grind (arith, nat_tests))
one-layer b (All size) h = absurd (grind (arith, nat_tests))
one-layer b (Empty size) h = absurd (grind (arith, nat_tests))
one-layer b (Times n c) h = absurd (grind (arith, nat_tests))
one-layer b (Sum size cs) h = absurd (grind (arith, nat_tests))
one-layer b (Minus a c) h = absurd (grind (arith, nat_tests))

pub is-one : (b : List ℕ) (t : Tree) → (reading b t).is_colour ≡ true → IsOne (reading b t)
is-one b t h =
    let e = fold_out-Tree Reading (reading_of_parts b) t in
    subst IsOne (sym e) (one-layer b _ (ap (λ r. r.is_colour) (sym e) ∙ h))

-- the readings of trees with children
pub reading-Times : (b : List ℕ) (n : ℕ) (c : Tree) → reading b (tree.Times n c) ≡ reading_of_parts b (Times n (reading b c))
reading-Times b n c = ap (reading b) (sym (tree.rolls-Times n c)) ∙ fold-roll-Tree Reading (reading_of_parts b) (Times n c)

pub reading-Sum : (b : List ℕ) (size : ℕ) (cs : List Tree) → reading b (tree.Sum size cs) ≡ reading_of_parts b (Sum size (readings b cs))
reading-Sum b size cs = ap (reading b) (sym (tree.rolls-Sum size cs)) ∙ fold-roll-Tree Reading (reading_of_parts b) (Sum size cs)

pub reading-Minus : (b : List ℕ) (a c : Tree) → reading b (tree.Minus a c) ≡ reading_of_parts b (Minus (reading b a) (reading b c))
reading-Minus b a c = ap (reading b) (sym (tree.rolls-Minus a c)) ∙ fold-roll-Tree Reading (reading_of_parts b) (Minus a c)

-- a sum
pub sum-fits : (b : List ℕ) (size : ℕ) (cs : List Reading) → (reading_of_parts b (Sum size cs)).is_sound ≡ true
    → (are_sound cs ≡ true) × (are_of_size size cs ≡ true) × (gross_sum cs < 2 ^ 63)
sum-fits b size cs h =
    let outer = and-true (are_sound cs && are_of_size size cs) (nat_le (gross_sum cs) most) h in
    let inner = and-true (are_sound cs) (are_of_size size cs) outer.0 in
    let room : gross_sum cs ≤ most = le-of-test (gross_sum cs) most outer.1 in
    (inner.0, inner.1, omega (arith, room))

pub readings-take : (b : List ℕ) (parts : List Tree) (i : ℕ) (d : Tree) → i < length parts
    → readings b (take (i + 1) parts) ≡ readings b (take i parts) ++ reading b (get_or parts i d) ∷ []
readings-take b parts i d within = ap (readings b) (take_more parts i d within) ∙ map-append (reading b) (take i parts) (get_or parts i d ∷ [])

-- a difference
pub within-from : (size : ℕ) (part whole : ℕ → ℕ) → ((p : ℕ) → p < size → part p ≤ whole p) → is_within size part whole ≡ true
within-from zero part whole h = refl
within-from (suc n) part whole h = let first = test-of-le (part n) (whole n) (h n (omega arith)) in rw first (within-from n part whole (λ p inside. h p (omega arith)))

pub within-not : (size p : ℕ) (part whole : ℕ → ℕ) → p < size → whole p < part p → is_within size part whole ≡ false
within-not zero p part whole inside h = absurd (omega arith)
within-not (suc n) p part whole inside h =
    elim (cases_eq p n) [
      | inl last ↦
          let here : whole n < part n = subst (λ q. whole q < part q) last h in
          let first : nat_le (part n) (whole n) ≡ false = grind (arith, nat_tests) in
          rw first refl
      | inr other ↦ and-false (nat_le (part n) (whole n)) (is_within n part whole) (within-not n p part whole (omega arith) h)
    ]

-- what follows from the value of a result
pub if-ok : {A E : Type 0} (r : Result A E) (P Q : A → Type 0) → ((x : A) → P x → Q x) → IfOk r P → IfOk r Q
if-ok (Ok x) P Q step known = step x known
if-ok (Err fault) P Q step known = tt

-- all colours of a sort, where a choice is no colour
pub record IsEvery (r : Reading) : Type 0 where
  pub counts : (p : ℕ) → r.count p ≡ once (nat_lt p r.size)
  pub gross : r.gross ≡ r.size

every-layer : (b : List ℕ) (l : Tree-F Reading) → (reading_of_parts b l).is_choice ≡ true → (reading_of_parts b l).is_colour ≡ false → IsEvery (reading_of_parts b l)
every-layer b (Variable size number) h k = absurd (grind (arith, nat_tests))
every-layer b (Constant size index) h k = absurd (grind (arith, nat_tests))
every-layer b (Next size c) h k = absurd (grind (arith, nat_tests))
every-layer b (Before size c) h k = absurd (grind (arith, nat_tests))
every-layer b (Tuple size cs) h k = absurd (grind (arith, nat_tests))
every-layer b (Product size cs) h k = absurd (grind (arith, nat_tests))
every-layer b (All size) h k = record { counts = λ p. refl; gross = refl }
every-layer b (Empty size) h k = absurd (grind (arith, nat_tests))
every-layer b (Times n c) h k = absurd (grind (arith, nat_tests))
every-layer b (Sum size cs) h k = absurd (grind (arith, nat_tests))
every-layer b (Minus a c) h k = absurd (grind (arith, nat_tests))

pub is-every : (b : List ℕ) (t : Tree) → (reading b t).is_choice ≡ true → (reading b t).is_colour ≡ false → IsEvery (reading b t)
is-every b t h k =
    let e = fold_out-Tree Reading (reading_of_parts b) t in
    subst IsEvery (sym e) (every-layer b _ (ap (λ r. r.is_choice) (sym e) ∙ h) (ap (λ r. r.is_colour) (sym e) ∙ k))

-- tuples of choices
pub tuple_count-same : (f g : ℕ → ℕ) (cs : List Reading) (p : ℕ) → ((q : ℕ) → f q ≡ g q) → tuple_count f cs p ≡ tuple_count g cs p
tuple_count-same f g [] p h = h p
tuple_count-same f g (c ∷ cs) p h = tuple_count-same (λ q. f (q / c.size) * c.count (q % c.size)) (λ q. g (q / c.size) * c.count (q % c.size)) cs p (λ q. ap (λ x. x * c.count (q % c.size)) (h (q / c.size)))

pub reading-Product : (b : List ℕ) (size : ℕ) (cs : List Tree) → reading b (tree.Product size cs) ≡ reading_of_parts b (Product size (readings b cs))
reading-Product b size cs = ap (reading b) (sym (tree.rolls-Product size cs)) ∙ fold-roll-Tree Reading (reading_of_parts b) (Product size cs)

pub record IsChoice (c : Reading) : Type 0 where
  pub sound : c.is_sound ≡ true
  pub choice : c.is_choice ≡ true
  pub some : 0 < c.size

pub choices-head : (c : Reading) (cs : List Reading) → are_choices (c ∷ cs) ≡ true → IsChoice c
choices-head c cs h = record { sound = grind (arith, nat_tests); choice = grind (arith, nat_tests); some = grind (arith, nat_tests) }

pub choices-tail : (c : Reading) (cs : List Reading) → are_choices (c ∷ cs) ≡ true → are_choices cs ≡ true
choices-tail c cs h = grind (arith, nat_tests)

pub choices-some : (cs : List Reading) → are_choices cs ≡ true → 1 ≤ tuple_size cs
choices-some [] h = omega arith
choices-some (c ∷ cs) h =
    let first = (choices-head c cs h).some in
    let rest = choices-some cs (choices-tail c cs h) in
    let more : c.size * 1 ≤ c.size * tuple_size cs = mul-le-mul_left c.size rest in
    omega arith

-- the tuples of what was read in front of the rest
pub record IsFront (whole : List Reading) (rest : List Reading) (row : List Cell) : Type 0 where
  pub choice : are_choices rest ≡ true
  pub lead : ℕ
  pub below : AreBelow lead row
  pub size : lead * tuple_size rest ≡ tuple_size whole
  pub counts : (p : ℕ) → tuple_count (λ q. amount q row) rest p ≡ tuple_count (λ q. once (nat_eq 0 q)) whole p
  pub elements : total row * choices rest ≤ choices whole

pub front-room : (whole : List Reading) (c : Reading) (cs : List Reading) (row : List Cell) → IsFront whole (c ∷ cs) row → tuple_size whole ≤ 2 ^ 20 → AreFronts c.size row
front-room whole c cs row is room = λ k d within.
    let low = is.below k d within in
    let some = choices-some cs (choices-tail c cs is.choice) in
    let next = room-below (get_or row k d).at c.size is.lead low in
    let less : is.lead * (c.size * 1) ≤ is.lead * (c.size * tuple_size cs) = mul-le-mul_left is.lead (mul-le-mul_left c.size some) in
    let same = is.size in
    omega (arith, next, less, same, room)

pub front-step : (whole : List Reading) (c : Reading) (cs : List Reading) (row new : List Cell) → IsFront whole (c ∷ cs) row → IsExtended c row new → IsFront whole cs new
front-step whole c cs row new is more = record {
  choice = choices-tail c cs is.choice;
  lead = is.lead * c.size;
  below = more.inside is.lead is.below;
  size = mul_assoc is.lead c.size (tuple_size cs) ∙ is.size;
  counts = λ p. tuple_count-same (λ q. amount q new) (λ q. amount (q / c.size) row * c.count (q % c.size)) cs p more.counts ∙ is.counts p;
  elements =
      let gross = ap (λ n. n * choices cs) more.elements in
      let same = mul_assoc (total row) c.gross (choices cs) in
      let known = is.elements in
      omega (arith, gross, same, known);
}

pub front-end : (whole : List Reading) (row : List Cell) → IsFront whole [] row → HasTuples whole row
front-end whole row is = record {
  counts = is.counts;
  elements = let h = is.elements in omega (arith, h);
  inside = let same : is.lead ≡ tuple_size whole = let h = is.size in omega (arith, h) in subst (λ n. AreBelow n row) same is.below;
}

pub front-start : (whole : List Reading) (row : List Cell) → are_choices whole ≡ true → IsRowOf 1 1 (λ p. once (nat_eq 0 p)) row → IsFront whole whole row
front-start whole row choice is = record {
  choice = choice;
  lead = 1;
  below = is.below;
  size = omega arith;
  counts = λ p. tuple_count-same (λ q. amount q row) (λ q. once (nat_eq 0 q)) whole p is.counts;
  elements = let less : total row * choices whole ≤ 1 * choices whole = mul-le-mul_right (choices whole) is.elements in omega (arith, less);
}
