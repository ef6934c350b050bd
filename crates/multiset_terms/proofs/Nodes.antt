-- Nodes of compiled terms mean what those of the written terms mean.
use Rattle.std.proofs.Common.{◌≡◌, ℕ, zero, suc, ◌+◌, ◌-◌, ◌*◌, ◌<◌, ◌≤◌, inl, inr, Bool, true, List, [], ◌∷◌, length, get_or, refl, sym, ap, ◌∙◌, arith, Some}
use Rattle.std.specs.Prelude.{◌&&◌, nat_eq, nat_lt, nat_le, sum_by, slice_index, if◌then◌else◌}
use Rattle.std.specs.Bool.{Decides}
use Rattle.std.specs.List.{list_all, slice_get}
use Rattle.std.proofs.lemmas.Bool.{cases_eq}
use Rattle.std.proofs.lemmas.Bool.Decides.{nat_tests, same_from_decides}
use Rattle.std.proofs.lemmas.List.Sums.{sum_by-cons, AllPass-from_list_all, list_all-from_AllPass}
use Rattle.std.proofs.lemmas.Option.{slice_get_within, slice_get-get_or}
use Rattle.colour_sorts.specs.declared.sorts.Colour.{Colour}
use Rattle.colour_sorts.specs.declared.sorts.Colour.TheVariants as colours
use Rattle.colour_sorts.specs.Places.{before_of, next_of}
use Rattle.net_model.specs.declared.terms.Term.TheOpen as written
use Rattle.multiset_terms.specs.declared.trees.Tree.TheOpen as tree
use Rattle.multiset_terms.specs.Agreeing.{AreAgreed, IsAgreed, IsOneColour, NodesAgree}
use Rattle.multiset_terms.specs.Context.{Context}
use Rattle.multiset_terms.specs.Laws.{IsOnce}
use Rattle.multiset_terms.specs.Trees as trees
use Rattle.multiset_terms.specs.Trees.{Reading, below, colour, gross_sum, most, most_colours, once, reading_of_parts}
use Rattle.multiset_terms.specs.Values as values
use Rattle.multiset_terms.specs.Values.{Binding, Meaning, colours_of, is_same, meaning_part, one_colour, stepped}
use Rattle.multiset_terms.proofs.Agreement.{lists-agree}
use Rattle.multiset_terms.proofs.Readings.{and-true}

pub test-of-lt : (a b : ℕ) → a < b → nat_lt a b ≡ true
test-of-lt a b h = grind (arith, nat_tests)

pub test-of-le : (a b : ℕ) → a ≤ b → nat_le a b ≡ true
test-of-le a b h = grind (arith, nat_tests)

pub test-of-eq : (a b : ℕ) → a ≡ b → nat_eq a b ≡ true
test-of-eq a b h = grind (arith, nat_tests)

pub all-true : (a b c : Bool) → a ≡ true → b ≡ true → c ≡ true → (a && b && c) ≡ true
all-true a b c x y z = rw (x, y) z

-- a colour at a place
pub one-at : (cs : List Colour) → IsOnce cs → length cs ≤ most_colours → (place : ℕ) (m : Meaning) (c : Colour) (sound : Bool)
    → slice_get cs place ≡ Some c → sound ≡ true → m.colour ≡ c → m.is_defined ≡ true → ((other : Colour) → m.count other ≡ (if is_same c other then 1 else 0))
    → IsOneColour cs m (colour (length cs) place sound)
one-at cs distinct limit place m c sound here ok same defined counts = record {
  agreed = record {
    sound = all-true sound (nat_lt place (length cs)) (nat_le (length cs) most_colours) ok (test-of-lt place (length cs) (slice_get_within cs place c here)) (test-of-le (length cs) most_colours limit);
    defined = sym defined;
    size = refl;
    counts = λ at other there. (lists-agree cs distinct).counts place at c other here there ∙ sym (counts other);
  };
  is_colour = refl;
  is_choice = refl;
  is_defined = defined;
  place = here ∙ ap Some (sym same);
  counted = λ other. counts other ∙ ap (λ x. if is_same x other then 1 else 0) (sym same);
}

sums-agree : (cs : List Colour) (ms : List Meaning) (rs : List Reading) → AreAgreed cs ms rs → (at : ℕ) (c : Colour) → slice_get cs at ≡ Some c
    → trees.count_sum rs at ≡ sum_by (λ m. m.count c) ms
sums-agree cs [] [] known at c here = refl
sums-agree cs (m ∷ ms) (r ∷ rs) known at c here =
    sum_by-cons (λ r. r.count at) r rs ∙ ap (λ n. n + trees.count_sum rs at) (known.0.counts at c here)
    ∙ ap (λ n. m.count c + n) (sums-agree cs ms rs known.1 at c here) ∙ sym (sum_by-cons (λ m. m.count c) m ms)
sums-agree cs [] (_ ∷ _) known at c here = absurd known
sums-agree cs (_ ∷ _) [] known at c here = absurd known

sums-defined : (cs : List Colour) (ms : List Meaning) (rs : List Reading) → AreAgreed cs ms rs → trees.are_defined rs ≡ values.are_defined ms
sums-defined cs [] [] known = refl
sums-defined cs (m ∷ ms) (r ∷ rs) known = rw (known.0.defined, sums-defined cs ms rs known.1) refl
sums-defined cs [] (_ ∷ _) known = absurd known
sums-defined cs (_ ∷ _) [] known = absurd known

sums-sound : (cs : List Colour) (ms : List Meaning) (rs : List Reading) → AreAgreed cs ms rs → (trees.are_sound rs ≡ true) × (trees.are_of_size (length cs) rs ≡ true)
sums-sound cs [] [] known = (refl, refl)
sums-sound cs (m ∷ ms) (r ∷ rs) known =
    let rest = sums-sound cs ms rs known.1 in
    (rw known.0.sound rest.0, rw (test-of-eq r.size (length cs) known.0.size) rest.1)
sums-sound cs [] (_ ∷ _) known = absurd known
sums-sound cs (_ ∷ _) [] known = absurd known

-- a test at each number and at each element
below-test : (test : ℕ → Bool) (n : ℕ) → ((p : ℕ) → p < n → test p ≡ true) → list_all test (below n) ≡ true
below-test test zero h = refl
below-test test (suc n) h = rw (h n (omega arith)) (below-test test n (λ p less. h p (omega arith)))

below-each : (test : ℕ → Bool) (n : ℕ) → list_all test (below n) ≡ true → (p : ℕ) → p < n → test p ≡ true
below-each test zero h p less = absurd (omega arith)
below-each test (suc n) h p less =
    let both = and-true (test n) (list_all test (below n)) h in
    elim (cases_eq p n) [
      | inl last ↦ rw last both.0
      | inr other ↦ below-each test n both.1 p (omega arith)
    ]

abbrev Each : ℕ → (ℕ → Bool) → Type 0
Each n test = (p : ℕ) → p < n → test p ≡ true

numbers-decide : (test : ℕ → Bool) (n : ℕ) → Decides (list_all test (below n)) (Each n test)
numbers-decide test n = (λ h. below-each test n h, λ h. below-test test n h)

colours-decide : (cs : List Colour) (numbers : ℕ → Bool) (test : Colour → Bool) → ((p : ℕ) (c : Colour) → slice_get cs p ≡ Some c → numbers p ≡ test c)
    → Decides (list_all test cs) (Each (length cs) numbers)
colours-decide cs numbers test same = (
  (λ h p less. let d = get_or cs p colours.Dot in
      same p d (slice_get-get_or cs p colours.Dot less) ∙ AllPass-from_list_all test cs h p colours.Dot less),
  (λ h. list_all-from_AllPass test cs (λ p d less. sym (same p (get_or cs p d) (slice_get-get_or cs p d less)) ∙ h p less)),
)

within-agree : (cs : List Colour) (m n : Meaning) (r q : Reading) → IsAgreed cs m r → IsAgreed cs n q
    → trees.is_within r.size q.count r.count ≡ values.is_within cs n.count m.count
within-agree cs m n r q first second =
    ap (λ size. trees.is_within size q.count r.count) first.size
    ∙ same_from_decides (trees.is_within (length cs) q.count r.count) (values.is_within cs n.count m.count)
    (numbers-decide (λ p. nat_le (q.count p) (r.count p)) (length cs))
    (colours-decide cs (λ p. nat_le (q.count p) (r.count p)) (λ c. nat_le (n.count c) (m.count c))
    (λ p c here. ap (λ x. nat_le x (r.count p)) (second.counts p c here) ∙ ap (λ x. nat_le (n.count c) x) (first.counts p c here)))

pub times-agree : (ctx : Context) (b : Binding) (indices : List ℕ) (cs : List Colour) (n : ℕ) (m : Meaning) (r : Reading) → IsAgreed cs m r → n * r.gross ≤ most
    → IsAgreed cs (meaning_part ctx b (written.Scalar n m)) (reading_of_parts indices (tree.Times n r))
times-agree ctx b indices cs n m r known fits = record {
  sound = rw known.sound (test-of-le (n * r.gross) most fits);
  defined = known.defined;
  size = known.size;
  counts = λ at c here. ap (λ x. n * x) (known.counts at c here);
}

pub difference-agrees : (ctx : Context) (b : Binding) (indices : List ℕ) (cs : List Colour) (m n : Meaning) (r q : Reading) → colours_of ctx m.sort ≡ cs → IsAgreed cs m r → IsAgreed cs n q
    → r.gross + q.gross ≤ most → IsAgreed cs (meaning_part ctx b (written.Subtract m n)) (reading_of_parts indices (tree.Minus r q))
difference-agrees ctx b indices cs m n r q sort first second fits = record {
  sound = rw (first.sound, second.sound, test-of-eq r.size q.size (first.size ∙ sym second.size)) (test-of-le (r.gross + q.gross) most fits);
  defined = rw (first.defined, second.defined) (ap (λ x. m.is_defined && n.is_defined && x) (within-agree cs m n r q first second ∙ ap (λ list. values.is_within list n.count m.count) (sym sort)));
  size = first.size;
  counts = λ at c here. ap (λ x. x - q.count at) (first.counts at c here) ∙ ap (λ x. m.count c - x) (second.counts at c here);
}

pub sum-agrees : (ctx : Context) (b : Binding) (indices : List ℕ) (cs : List Colour) (ms : List Meaning) (rs : List Reading) → AreAgreed cs ms rs → gross_sum rs ≤ most
    → IsAgreed cs (meaning_part ctx b (written.Add ms)) (reading_of_parts indices (tree.Sum (length cs) rs))
sum-agrees ctx b indices cs ms rs known fits =
    let sound = sums-sound cs ms rs known in
    record {
      sound = rw (sound.0, sound.1) (test-of-le (gross_sum rs) most fits);
      defined = sums-defined cs ms rs known;
      size = refl;
      counts = λ at c here. sums-agree cs ms rs known at c here;
    }

pub nodes-agree : (ctx : Context) (b : Binding) (indices : List ℕ) (cs : List Colour) → IsOnce cs → length cs ≤ most_colours → NodesAgree ctx b indices cs
nodes-agree ctx b indices cs distinct limit = record {
  variable = λ s number c within here.
      one-at cs distinct limit (slice_index indices number) (one_colour s c true) c (nat_lt number (length indices)) here (test-of-lt number (length indices) within) refl refl (λ other. refl);
  constant = λ s index c here. one-at cs distinct limit index (one_colour s c true) c true here refl refl refl (λ other. refl);
  every = λ s. record {
    sound = test-of-le (length cs) most_colours limit;
    defined = refl;
    size = refl;
    counts = λ at c here. rw (test-of-lt at (length cs) (slice_get_within cs at c here)) refl;
  };
  empty = λ s. record { sound = refl; defined = refl; size = refl; counts = λ at c here. refl };
  next = λ m r sort known.
      let whole = stepped next_of cs m.colour in
      let size : r.size ≡ length cs = known.agreed.size in
      one-at cs distinct limit (next_of (length cs) r.place) (meaning_part ctx b (written.Successor m)) whole (r.is_sound && r.is_colour && nat_eq r.size (length cs))
      ((lists-agree cs distinct).next r.place m.colour known.place)
      (all-true r.is_sound r.is_colour (nat_eq r.size (length cs)) known.agreed.sound known.is_colour (test-of-eq r.size (length cs) size))
      (ap (λ list. stepped next_of list m.colour) sort) known.is_defined (λ other. ap (λ list. if is_same (stepped next_of list m.colour) other then 1 else 0) sort);
  before = λ m r sort known.
      let whole = stepped before_of cs m.colour in
      let size : r.size ≡ length cs = known.agreed.size in
      one-at cs distinct limit (before_of (length cs) r.place) (meaning_part ctx b (written.Predecessor m)) whole (r.is_sound && r.is_colour && nat_eq r.size (length cs))
      ((lists-agree cs distinct).before r.place m.colour known.place)
      (all-true r.is_sound r.is_colour (nat_eq r.size (length cs)) known.agreed.sound known.is_colour (test-of-eq r.size (length cs) size))
      (ap (λ list. stepped before_of list m.colour) sort) known.is_defined (λ other. ap (λ list. if is_same (stepped before_of list m.colour) other then 1 else 0) sort);
  times = λ n m r known fits. times-agree ctx b indices cs n m r known fits;
  sum = λ ms rs known fits. sum-agrees ctx b indices cs ms rs known fits;
  difference = λ m n r q sort first second fits. difference-agrees ctx b indices cs m n r q sort first second fits;
}
