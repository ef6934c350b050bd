-- Blocks put at the places of their members.
use Rattle.std.proofs.Common.{◌≡◌, ℕ, ◌+◌, ◌<◌, ◌≤◌, ◌⊎◌, inl, inr, Bool, true, false, cond, eqb, ◌&&◌, nat_eq, List, [], ◌∷◌, ◌++◌, length, length-append, replicate, length-set, set, take, drop, get_or, refl, sym, ap, ◌∙◌, arith, subst, Some}
use Rattle.std.proofs.lemmas.Bool.{false≢true}
use Rattle.std.proofs.lemmas.Bool.Decides.{nat_tests}
use Rattle.std.proofs.lemmas.List.{get_or-replicate, get_or-set_other, get_or-set_same, length-replicate, take-append-drop, take_more}
use Rattle.std.proofs.lemmas.List.Concat.{flat_map-append}
use Rattle.std.proofs.lemmas.List.Folds.{list_all-append, position_or_len_push}
use Rattle.name_tables.proofs.Places.{position_or_len_none}
use Rattle.std.proofs.lemmas.List.Sums.{count_by_more_no, count_by_more_yes, sum_by-append}
use Rattle.std.proofs.lemmas.Option.{slice_get-get_or, slice_get_within}
use Rattle.std.specs.List.{count_by, list_all, list_any, slice_get}
use Rattle.colour_sorts.specs.declared.sorts.Colour.{Colour}
use Rattle.colour_sorts.specs.declared.sorts.Colour.TheVariants as colour
use Rattle.net_model.specs.declared.sorts.Block.{Block}
use Rattle.net_model.specs.declared.sorts.Member.{Member}
use Rattle.colour_sorts.specs.Dividing.{block_with, is_colour, members_of}
use Rattle.colour_sorts.specs.Filling.{AreFilling, IsColourAt, IsFilling, IsTwice}
use Rattle.colour_sorts.proofs.Has.{equal-or-not}

count-append : (c : Colour) (xs ys : List Member) → count_by (is_colour c) (xs ++ ys) ≡ count_by (is_colour c) xs + count_by (is_colour c) ys
count-append c xs ys = sum_by-append _ xs ys

count-take : (c : Colour) (xs : List Member) (i : ℕ) → count_by (is_colour c) (take i xs) ≤ count_by (is_colour c) xs
count-take c xs i = omega (arith, ap (count_by (is_colour c)) (take-append-drop i xs), count-append c (take i xs) (drop i xs))

-- one member more at a free place
pub filling-more : (cs : List Colour) (done : List Block) (members : List Member) (i : ℕ) (m : Member) (most k : ℕ) (blocks : List ℕ) → i < length members → m ≡ get_or members i m
    → IsColourAt cs m k → get_or blocks k 0 ≡ most → length done < most → AreFilling cs done (take i members) most blocks → AreFilling cs done (take (i + 1) members) most (set blocks k (length done))
filling-more cs done members i m most k blocks within is at free less filling = record {
  as_long = length-set blocks k (length done) ∙ filling.as_long;
  filled = λ j c e. by j c e (equal-or-not j k);
}
  where
    by : (j : ℕ) (c : Colour) → slice_get cs j ≡ Some c → ((j ≡ k) ⊎ (j ≡ k → ⊥)) → IsFilling done (take (i + 1) members) most c (get_or (set blocks k (length done)) j 0)
    by j c e (inl same) = here (filling.filled j c e)
      where
        value : get_or (set blocks k (length done)) j 0 ≡ length done
        value = ap (λ n. get_or (set blocks k (length done)) n 0) same ∙ get_or-set_same blocks k (length done) 0 (omega (arith, at.within, filling.as_long))

        old : get_or blocks j 0 ≡ most
        old = ap (λ n. get_or blocks n 0) same ∙ free

        yes : is_colour c (get_or members i m) ≡ true
        yes = ap (is_colour c) (sym is) ∙ at.only j c e ∙ (let t : nat_eq j k ≡ true = grind (arith, nat_tests, same) in t)

        more : count_by (is_colour c) (take (i + 1) members) ≡ count_by (is_colour c) (take i members) + 1
        more = count_by_more_yes (is_colour c) members i m within yes

        here : IsFilling done (take i members) most c (get_or blocks j 0) → IsFilling done (take (i + 1) members) most c (get_or (set blocks k (length done)) j 0)
        here (inl (a, b, _)) = inr (inr (a, more ∙ ap (λ n. n + 1) b, value))
        here (inr (inl (_, _, _, small))) = absurd (omega (arith, small, old, less))
        here (inr (inr (_, _, v))) = absurd (omega (arith, v, old, less))
    by j c e (inr other) = there (filling.filled j c e)
      where
        value : get_or (set blocks k (length done)) j 0 ≡ get_or blocks j 0
        value = get_or-set_other blocks k j (length done) 0 other

        no : is_colour c (get_or members i m) ≡ false
        no = ap (is_colour c) (sym is) ∙ at.only j c e ∙ (let t : nat_eq j k ≡ false = grind (arith, nat_tests, other) in t)

        same : count_by (is_colour c) (take (i + 1) members) ≡ count_by (is_colour c) (take i members)
        same = count_by_more_no (is_colour c) members i m within no

        there : IsFilling done (take i members) most c (get_or blocks j 0) → IsFilling done (take (i + 1) members) most c (get_or (set blocks k (length done)) j 0)
        there (inl (a, b, v)) = inl (a, same ∙ b, value ∙ v)
        there (inr (inl (a, b, v, small))) = inr (inl (a, same ∙ b, value ∙ v, omega (arith, small, value)))
        there (inr (inr (a, b, v))) = inr (inr (a, same ∙ b, value ∙ v))

-- a member at a place that is taken
pub twice-at : (cs : List Colour) (done : List Block) (members : List Member) (i : ℕ) (m : Member) (most k : ℕ) (blocks : List ℕ) → i < length members → m ≡ get_or members i m
    → IsColourAt cs m k → (get_or blocks k 0 ≡ most → ⊥) → AreFilling cs done (take i members) most blocks → IsTwice cs (members_of done ++ members)
twice-at cs done members i m most k blocks within is at taken filling =
    let c = get_or cs k colour.Dot in
    let there = slice_get-get_or cs k colour.Dot at.within in
    let yes = ap (is_colour c) (sym is) ∙ at.only k c there ∙ (let t : nat_eq k k ≡ true = grind (arith, nat_tests) in t) in
    let more = count_by_more_yes (is_colour c) members i m within yes in
    (k, c, there, by c (filling.filled k c there) more (count-take c members (i + 1)) (count-append c (members_of done) members))
  where
    by : (c : Colour) → IsFilling done (take i members) most c (get_or blocks k 0) → count_by (is_colour c) (take (i + 1) members) ≡ count_by (is_colour c) (take i members) + 1
        → count_by (is_colour c) (take (i + 1) members) ≤ count_by (is_colour c) members
        → count_by (is_colour c) (members_of done ++ members) ≡ count_by (is_colour c) (members_of done) + count_by (is_colour c) members
        → 2 ≤ count_by (is_colour c) (members_of done ++ members)
    by c (inl (_, _, v)) more le whole = absurd (taken v)
    by c (inr (inl (a, _, _, _))) more le whole = omega (arith, a, more, le, whole)
    by c (inr (inr (_, b, _))) more le whole = omega (arith, b, more, le, whole)

-- counts and tests
count-cons : (c : Colour) (x : Member) (xs : List Member) → count_by (is_colour c) (x ∷ xs) ≡ cond (is_colour c x) 1 0 + count_by (is_colour c) xs
count-cons c x xs = count-append c (x ∷ []) xs ∙ ap (λ n. n + count_by (is_colour c) xs) (plain (cond (is_colour c x) 1 0))
  where
    plain : (n : ℕ) → 0 + n ≡ n
    plain n = omega arith

any-none : (c : Colour) (xs : List Member) → count_by (is_colour c) xs ≡ 0 → list_any (is_colour c) xs ≡ false
any-none c [] e = refl
any-none c (x ∷ xs) e = by (is_colour c x) refl (sym (count-cons c x xs) ∙ e) (any-none c xs)
  where
    by : (b : Bool) → is_colour c x ≡ b → cond b 1 0 + count_by (is_colour c) xs ≡ 0 → (count_by (is_colour c) xs ≡ 0 → list_any (is_colour c) xs ≡ false) → list_any (is_colour c) (x ∷ xs) ≡ false
    by true h e rest = absurd (omega (arith, e))
    by false h e rest = let later = rest (omega (arith, e)) in grind (arith, h, later)

any-some : (c : Colour) (xs : List Member) → 1 ≤ count_by (is_colour c) xs → list_any (is_colour c) xs ≡ true
any-some c [] e = absurd (omega (arith, e))
any-some c (x ∷ xs) e = by (is_colour c x) refl (subst (λ n. 1 ≤ n) (count-cons c x xs) e) (any-some c xs)
  where
    by : (b : Bool) → is_colour c x ≡ b → 1 ≤ cond b 1 0 + count_by (is_colour c) xs → (1 ≤ count_by (is_colour c) xs → list_any (is_colour c) xs ≡ true) → list_any (is_colour c) (x ∷ xs) ≡ true
    by true h e rest = grind (arith, h)
    by false h e rest = let later = rest (omega (arith, e)) in grind (arith, h, later)

no-block : (c : Colour) (done : List Block) → count_by (is_colour c) (members_of done) ≡ 0 → block_with done c ≡ length done
no-block c done none = position_or_len_none (λ element. list_any (is_colour c) element.members) done (all done none)
  where
    all : (bs : List Block) → count_by (is_colour c) (members_of bs) ≡ 0 → list_any (λ element. list_any (is_colour c) element.members) bs ≡ false
    all [] e = refl
    all (b ∷ bs) e =
        let parts = count-append c b.members (members_of bs) in
        let first = any-none c b.members (omega (arith, e, parts)) in
        let rest = all bs (omega (arith, e, parts)) in
        grind (arith, first, rest)

members-more : (done : List Block) (b : Block) → members_of (done ++ b ∷ []) ≡ members_of done ++ b.members
members-more done b = flat_map-append (λ element. element.members) done (b ∷ []) ∙ ap (λ xs. members_of done ++ xs) (append-nil b.members)
  where
    append-nil : (xs : List Member) → xs ++ [] ≡ xs
    append-nil [] = refl
    append-nil (x ∷ xs) = ap (λ ys. x ∷ ys) (append-nil xs)

-- a block is done
pub filling-next : (cs : List Colour) (done : List Block) (b : Block) (most : ℕ) (blocks : List ℕ) → AreFilling cs done b.members most blocks → AreFilling cs (done ++ b ∷ []) [] most blocks
filling-next cs done b most blocks filling = record { as_long = filling.as_long; filled = λ j c e. by c (get_or blocks j 0) (filling.filled j c e) }
  where
    by : (c : Colour) (v : ℕ) → IsFilling done b.members most c v → IsFilling (done ++ b ∷ []) [] most c v
    by c v (inl (a, n, is)) = inl (ap (count_by (is_colour c)) (members-more done b) ∙ count-append c (members_of done) b.members ∙ (let z : count_by (is_colour c) (members_of done) + count_by (is_colour c) b.members ≡ 0 = omega (arith, a, n) in z), refl, is)
    by c v (inr (inl (a, n, is, small))) =
        let push = position_or_len_push (λ element. list_any (is_colour c) element.members) done b in
        inr (inl (
          ap (count_by (is_colour c)) (members-more done b) ∙ count-append c (members_of done) b.members ∙ (let z : count_by (is_colour c) (members_of done) + count_by (is_colour c) b.members ≡ 1 = omega (arith, a, n) in z),
          refl,
          is ∙ sym (push ∙ first (block_with done c) (length done) _ (omega (arith, is, small))),
          omega (arith, small, length-append done (b ∷ [])),
        ))
      where
        first : (p n x : ℕ) → p < n → cond (eqb p n) x p ≡ p
        first p n x less = grind (arith, nat_tests, less)
    by c v (inr (inr (a, n, is))) =
        let push = position_or_len_push (λ element. list_any (is_colour c) element.members) done b in
        inr (inl (
          ap (count_by (is_colour c)) (members-more done b) ∙ count-append c (members_of done) b.members ∙ (let z : count_by (is_colour c) (members_of done) + count_by (is_colour c) b.members ≡ 1 = omega (arith, a, n) in z),
          refl,
          is ∙ sym (push ∙ last (block_with done c) (length done) (list_any (is_colour c) b.members) (no-block c done a) (any-some c b.members (omega (arith, n)))),
          omega (arith, is, length-append done (b ∷ [])),
        ))
      where
        last : (p n : ℕ) (t : Bool) → p ≡ n → t ≡ true → cond (eqb p n) (n + cond t 0 1) p ≡ n
        last p n t e h = grind (arith, nat_tests, e, h)

pub filling-none : (cs : List Colour) (most : ℕ) (blocks : List ℕ) → blocks ≡ replicate (length cs) most → AreFilling cs [] [] most blocks
filling-none cs most blocks is = subst (AreFilling cs [] [] most) (sym is) (record {
  as_long = length-replicate (length cs) most;
  filled = λ j c e. inl (refl, refl, get_or-replicate (length cs) j most 0 (slice_get_within cs j c e));
})

-- the members of a block among those of all
pub members-split : (elements : List Block) (i : ℕ) (b : Block) → i < length elements → b ≡ get_or elements i b
    → members_of elements ≡ (members_of (take i elements) ++ b.members) ++ members_of (drop (i + 1) elements)
members-split elements i b within is =
    ap members_of (sym (take-append-drop (i + 1) elements))
    ∙ flat_map-append (λ element. element.members) (take (i + 1) elements) (drop (i + 1) elements)
    ∙ ap (λ xs. xs ++ members_of (drop (i + 1) elements)) (ap members_of (take_more elements i b within ∙ ap (λ x. take i elements ++ x ∷ []) (sym is)) ∙ members-more (take i elements) b)

pub twice-more : (cs : List Colour) (elements : List Block) (i : ℕ) (b : Block) → i < length elements → b ≡ get_or elements i b
    → IsTwice cs (members_of (take i elements) ++ b.members) → IsTwice cs (members_of elements)
twice-more cs elements i b within is (at, c, e, two) = (
  at,
  c,
  e,
  omega (arith, two, ap (count_by (is_colour c)) (members-split elements i b within is), count-append c (members_of (take i elements) ++ b.members) (members_of (drop (i + 1) elements))),
)

pub all-inside : (p : Member → Bool) (elements : List Block) (i : ℕ) (b : Block) → i < length elements → b ≡ get_or elements i b
    → list_all p (members_of elements) ≡ true → list_all p b.members ≡ true
all-inside p elements i b within is all =
    let front = members_of (take i elements) in
    let rest = members_of (drop (i + 1) elements) in
    let whole = sym (list_all-append p (front ++ b.members) rest) ∙ ap (list_all p) (sym (members-split elements i b within is)) ∙ all in
    let left = and-first (list_all p (front ++ b.members)) (list_all p rest) whole in
    and-second (list_all p front) (list_all p b.members) (sym (list_all-append p front b.members) ∙ left)
  where
    and-first : (a b : Bool) → (a && b) ≡ true → a ≡ true
    and-first true b e = refl
    and-first false b e = absurd (false≢true e)

    and-second : (a b : Bool) → (a && b) ≡ true → b ≡ true
    and-second true b e = e
    and-second false b e = absurd (false≢true e)
