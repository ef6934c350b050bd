-- One instance more: it joins a kept one, it is kept, or it isn't live.
use Rattle.std.proofs.Common.{◌≡◌, ◌≢◌, ℕ, zero, suc, ◌+◌, ◌^◌, ◌<◌, ◌≤◌, Bool, true, false, cond, not, ◌&&◌, inl, inr, List, [], ◌∷◌, ◌++◌, map, length, get_or, drop, arith, refl, ap, subst, sym, ◌∙◌, sum_by, add-one, Some, None, Option}
use Rattle.std.specs.List.{range_with_len}
use Rattle.std.specs.BTreeMap.{is_at}
use Rattle.std.specs.Map.{lookup}
use Rattle.std.specs.Str.{bytes_eq}
use Rattle.std.specs.Ordering.{nat_cmp, is_eq}
use Rattle.std.specs.Cmp.Lexicographic.{slice_cmp}
use Rattle.std.proofs.lemmas.Bool.{cases_eq, cases_Bool, false≢true, and_parts, and_from, not-true, false_from_ne_true}
use Rattle.std.proofs.lemmas.List.{map-append, length-map}
use Rattle.std.proofs.lemmas.List.FromFn.{map-range_with_len_more}
use Rattle.std.proofs.lemmas.List.Sums.{sum_by_more_le}
use Rattle.std.proofs.lemmas.Map.Text.{is_eq-slice_cmp}
use Rattle.std.proofs.lemmas.Option.{none-some}
use Rattle.std.proofs.lemmas.Slice.Eq.{bytes_eq-Decides}
use Rattle.wide_sums.specs.declared.rows.Cell.{Cell}
use Rattle.pt_net.specs.declared.instances.Instance.{Instance}
use Rattle.pt_net.specs.Systems.{NetSystem, IsSystem, instance_at, size}
use Rattle.trap_siphon.specs.Sets.{has, some_below}
use Rattle.trap_siphon.proofs.Members.{some-at}
use Rattle.reductions.specs.declared.Fate.{Fate}
use Rattle.reductions.specs.declared.Fate.TheVariants.{Dead, Blocked, Kept, Merged}
use Rattle.reductions.specs.Numbers.{numbers, rank, least}
use Rattle.reductions.specs.Rounds.{rounds}
use Rattle.reductions.specs.Reduced.{are_equal, kept, fate_among, is_dead, row_on}
use Rattle.reductions.specs.Merging.{HasRows, Joins, Begins, Keys, key_at, key_of, number_of, numbers_of, on_stays, stays}
use Rattle.reductions.specs.Merged.{IsMerging}
use Rattle.reductions.specs.Searching.{IsLastRound}
use Rattle.reductions.proofs.Going.{alive_is}
use Rattle.reductions.proofs.Kept.{agree_back, agree_both, agree_from, equal_from, kept-first, kept-from, kept-live, kept-not, kept-off, represented}
use Rattle.reductions.proofs.Numbers.{numbers_yes, numbers_no, numbers_sum, rank-le}
use Rattle.reductions.proofs.OneKey.{one_key, equal_from_key}
use Rattle.reductions.proofs.Nets.{row_on-length, sum_by-map}
use Rattle.reductions.proofs.Reduces.{rows_in_range}

-- a key tells its rows
numbers_same : (a b : List Cell) → numbers_of a ≡ numbers_of b → a ≡ b
numbers_same [] [] e = refl
numbers_same [] (d ∷ ds) e = absurd (let long = ap length e in omega arith)
numbers_same (c ∷ cs) [] e = absurd (let long = ap length e in omega arith)
numbers_same (c ∷ cs) (d ∷ ds) e =
    same_cons c d cs ds (ap (λ (xs : List ℕ). get_or xs 0 0) e) (ap (λ (xs : List ℕ). get_or xs 1 0) e) (numbers_same cs ds (ap (λ (xs : List ℕ). drop 2 xs) e)) where
      same_cons : (c d : Cell) (cs ds : List Cell) → c.at ≡ d.at → c.count ≡ d.count → cs ≡ ds → c ∷ cs ≡ d ∷ ds
      same_cons c d cs ds at count rest =
          ap (λ (n : ℕ). let e : Cell = record { at = n; count = c.count } in e ∷ cs) at ∙ ap (λ (n : ℕ). let e : Cell = record { at = d.at; count = n } in e ∷ cs) count ∙ ap (λ (es : List Cell). d ∷ es) rest

both_same : (a b : List Cell) (x y : List ℕ) → length a ≡ length b → numbers_of a ++ x ≡ numbers_of b ++ y → (numbers_of a ≡ numbers_of b) × (x ≡ y)
both_same [] [] x y long e = (refl, e)
both_same [] (d ∷ ds) x y long e = absurd (omega arith)
both_same (c ∷ cs) [] x y long e = absurd (omega arith)
both_same (c ∷ cs) (d ∷ ds) x y long e =
    let at = ap (λ (xs : List ℕ). get_or xs 0 0) e in
    let count = ap (λ (xs : List ℕ). get_or xs 1 0) e in
    let rest = both_same cs ds x y (omega arith) (ap (λ (xs : List ℕ). drop 2 xs) e) in
    (ap (λ (n : ℕ). n ∷ c.count ∷ numbers_of cs) at ∙ ap (λ (n : ℕ). d.at ∷ n ∷ numbers_of cs) count ∙ ap (λ (xs : List ℕ). d.at ∷ d.count ∷ xs) rest.0, rest.1)

pub key_parts : (a b a' b' : List Cell) → key_of a b ≡ key_of a' b' → (a ≡ a') × (b ≡ b')
key_parts a b a' b' e =
    let long = ap (λ (xs : List ℕ). get_or xs 0 0) e in
    let parts = both_same a a' (numbers_of b) (numbers_of b') long (ap (λ (xs : List ℕ). drop 1 xs) e) in
    (numbers_same a a' parts.0, numbers_same b b' parts.1)

-- instances with one key agree, and those that agree have one key
pub agree_from_key : (net : NetSystem) (still : List Bool) (i j : ℕ) → IsSystem net → i < size net → j < size net → key_at net still i ≡ key_at net still j → are_equal net still i j ≡ true
agree_from_key net still i j is_system inside inside' e =
    let parts = key_parts (on_stays net still i).pre (on_stays net still i).post (on_stays net still j).pre (on_stays net still j).post e in
    equal_from_key net still i j (rows_in_range net i is_system inside) (rows_in_range net j is_system inside') (record { pre = parts.0; post = parts.1 })

pub key_from_equal : (net : NetSystem) (still : List Bool) (i j : ℕ) → IsSystem net → i < size net → j < size net → HasRows net i → HasRows net j → are_equal net still i j ≡ true → key_at net still i ≡ key_at net still j
key_from_equal net still i j is_system inside inside' rows rows' equal =
    let keys = one_key net still i j (rows_in_range net i is_system inside) (rows_in_range net j is_system inside') rows rows' equal in
    ap (λ (row : List Cell). key_of row (row_on (stays still) (instance_at net i).post)) keys.pre ∙ ap (λ (row : List Cell). key_of (row_on (stays still) (instance_at net j).pre) row) keys.post

-- the first number that passes
pub least_at : (n k j : ℕ) (test : ℕ → Bool) → k ≤ j → j < k + n → test j ≡ true → ((i : ℕ) → k ≤ i → i < j → test i ≡ true → ⊥) → least n test k ≡ j
least_at zero k j test from below passes first = absurd (omega arith)
least_at (suc n) k j test from below passes first = elim (cases_eq k j) [
  | inl here ↦ least_yes n test k (ap test here ∙ passes) ∙ here
  | inr away ↦
      let fails : test k ≡ false = false_from_ne_true (test k) (first k (omega arith) (omega arith)) in
      least_no n test k fails ∙ least_at n (k + 1) j test (omega arith) (omega arith) passes (λ i low high. first i (omega arith) high)
] where
  least_yes : (n : ℕ) (test : ℕ → Bool) (k : ℕ) → test k ≡ true → least (suc n) test k ≡ k
  least_yes n test k e = ap (λ (b : Bool). let r : ℕ = elim b [ true ↦ k | false ↦ least n test (k + 1) ] in r) e

  least_no : (n : ℕ) (test : ℕ → Bool) (k : ℕ) → test k ≡ false → least (suc n) test k ≡ least n test (k + 1)
  least_no n test k e = ap (λ (b : Bool). let r : ℕ = elim b [ true ↦ k | false ↦ least n test (k + 1) ] in r) e

-- fates by cases
fate_by : (net : NetSystem) (still alive' ks : List Bool) (i : ℕ) (a b c : Bool) → has ks i ≡ a → has alive' i ≡ b → some_below (rounds net) (is_dead net i) ≡ c → fate_among net still alive' ks i ≡ elim a [
  | true ↦ Kept (rank (has ks) i)
  | false ↦ elim b [
    | true ↦ Merged (rank (has ks) (least (size net) (λ j. has alive' j && are_equal net still j i) 0))
    | false ↦ elim c [ true ↦ Dead | false ↦ Blocked ]
  ]
]
unfolding fate_among
fate_by net still alive' ks i a b c is_a is_b is_c =
    subst (λ (x : Bool). fate_among net still alive' ks i ≡ by_cases x b c) is_a (subst (λ (y : Bool). fate_among net still alive' ks i ≡ by_cases (has ks i) y c) is_b (subst (λ (z : Bool). fate_among net still alive' ks i ≡ by_cases (has ks i) (has alive' i) z) is_c refl)) where
      by_cases : Bool → Bool → Bool → Fate
      by_cases x y z = elim x [
        | true ↦ Kept (rank (has ks) i)
        | false ↦ elim y [
          | true ↦ Merged (rank (has ks) (least (size net) (λ j. has alive' j && are_equal net still j i) 0))
          | false ↦ elim z [ true ↦ Dead | false ↦ Blocked ]
        ]
      ]

-- the list of fates, and of kept instances, with one more
told_more : (f : ℕ → Fate) (k : ℕ) (fates fates' : List Fate) (fate : Fate) → fates ≡ map f (range_with_len 0 k) → fates' ≡ fates ++ fate ∷ [] → f k ≡ fate → fates' ≡ map f (range_with_len 0 (k + 1))
told_more f k fates fates' fate before more is = more ∙ ap (λ (xs : List Fate). xs ++ fate ∷ []) before ∙ ap (λ (x : Fate). map f (range_with_len 0 k) ++ x ∷ []) (sym is) ∙ sym (map-range_with_len_more f 0 k k (omega arith))

listed_same : (f : ℕ → Instance) (test : ℕ → Bool) (k : ℕ) → test k ≡ false → map f (numbers (k + 1) test) ≡ map f (numbers k test)
listed_same f test k fails = ap (λ n. map f (numbers n test)) (add-one k) ∙ ap (map f) (numbers_no k test fails)

listed_more : (f : ℕ → Instance) (test : ℕ → Bool) (k : ℕ) → test k ≡ true → map f (numbers (k + 1) test) ≡ map f (numbers k test) ++ f k ∷ []
listed_more f test k passes = ap (λ n. map f (numbers n test)) (add-one k) ∙ ap (map f) (numbers_yes k test passes) ∙ map-append f (numbers k test) (k ∷ [])

-- an instance that isn't live
pub step_other : (net : NetSystem) (still lives : List Bool) (k : ℕ) (keys : Keys) (fates fates' : List Fate) (listed : List Instance) (fate : Fate) → has lives k ≡ false → fates' ≡ fates ++ fate ∷ []
    → fate_among net still lives (kept net still lives) k ≡ fate → IsMerging net still lives k keys fates listed → IsMerging net still lives (k + 1) keys fates' listed
step_other net still lives k keys fates fates' listed fate off more is m =
    let gone = kept-off net still lives k off in
    record {
      told = told_more (fate_among net still lives (kept net still lives)) k fates fates' fate m.told more is;
      listing = m.listing ∙ sym (listed_same (on_stays net still) (has (kept net still lives)) k gone);
      found = λ j below here. elim (cases_eq j k) [
        | inl same ↦ absurd (false≢true (sym gone ∙ ap (has (kept net still lives)) (sym same) ∙ here))
        | inr away ↦ m.found j (omega arith) here
      ];
      only = λ key number known. (let old = m.only key number known in (old.0, record { before = (let low = old.1.before in omega arith); is_kept = old.1.is_kept; has_key = old.1.has_key }));
      rows = λ j below live. elim (cases_eq j k) [
        | inl same ↦ absurd (false≢true (sym off ∙ ap (has lives) (sym same) ∙ live))
        | inr away ↦ m.rows j (omega arith) live
      ];
    }

pub fate_dead : (net : NetSystem) (still lives : List Bool) (k : ℕ) → has lives k ≡ false → some_below (rounds net) (is_dead net k) ≡ true → fate_among net still lives (kept net still lives) k ≡ Dead
fate_dead net still lives k off dead = fate_by net still lives (kept net still lives) k false false true (kept-off net still lives k off) off dead

pub fate_blocked : (net : NetSystem) (still lives : List Bool) (k : ℕ) → has lives k ≡ false → some_below (rounds net) (is_dead net k) ≡ false → fate_among net still lives (kept net still lives) k ≡ Blocked
fate_blocked net still lives k off dead = fate_by net still lives (kept net still lives) k false false false (kept-off net still lives k off) off dead

not_false : (b : Bool) → not b ≡ false → b ≡ true
not_false true e = refl
not_false false e = absurd (false≢true (sym e))

pub step_blocked : (net : NetSystem) (on still lives undying : List Bool) (k : ℕ) (keys : Keys) (fates fates' : List Fate) (listed : List Instance) → k < size net → IsLastRound net on still lives undying → has lives k ≡ false → has undying k ≡ true
    → fates' ≡ fates ++ Blocked ∷ [] → IsMerging net still lives k keys fates listed → IsMerging net still lives (k + 1) keys fates' listed
step_blocked net on still lives undying k keys fates fates' listed inside last off yet more m =
    let some : not (some_below (rounds net) (is_dead net k)) ≡ true = sym (alive_is net (rounds net) k inside) ∙ ap (λ (s : List Bool). has s k) (sym last.last_alive) ∙ yet in
    step_other net still lives k keys fates fates' listed Blocked off more (fate_blocked net still lives k off (not-true (some_below (rounds net) (is_dead net k)) some)) m

pub step_dead : (net : NetSystem) (on still lives undying : List Bool) (k : ℕ) (keys : Keys) (fates fates' : List Fate) (listed : List Instance) → k < size net → IsLastRound net on still lives undying → has lives k ≡ false → has undying k ≡ false
    → fates' ≡ fates ++ Dead ∷ [] → IsMerging net still lives k keys fates listed → IsMerging net still lives (k + 1) keys fates' listed
step_dead net on still lives undying k keys fates fates' listed inside last off yet more m =
    let some : not (some_below (rounds net) (is_dead net k)) ≡ false = sym (alive_is net (rounds net) k inside) ∙ ap (λ (s : List Bool). has s k) (sym last.last_alive) ∙ yet in
    step_other net still lives k keys fates fates' listed Dead off more (fate_dead net still lives k off (not_false (some_below (rounds net) (is_dead net k)) some)) m

some_same : (a b : ℕ) → Some a ≡ Some b → a ≡ b
some_same a b e = ap (λ (o : Option ℕ). elim o [ Some x ↦ x | None ↦ 0 ]) e

all_rows : (net : NetSystem) (still lives : List Bool) (k : ℕ) (keys : Keys) (fates : List Fate) (listed : List Instance) → has lives k ≡ true → HasRows net k → IsMerging net still lives k keys fates listed → (j : ℕ) → j < k + 1 → has lives j ≡ true → HasRows net j
all_rows net still lives k keys fates listed here rows m j below live = elim (cases_eq j k) [
  | inl same ↦ subst (HasRows net) (sym same) rows
  | inr away ↦ m.rows j (omega arith) live
]

-- a live instance whose key has a number
pub step_joins : (net : NetSystem) (still lives : List Bool) (k : ℕ) (keys keys' : Keys) (fates fates' : List Fate) (listed listed' : List Instance) → IsSystem net → k < size net → has lives k ≡ true → HasRows net k
    → IsMerging net still lives k keys fates listed → Joins (key_at net still k) keys keys' fates fates' listed listed' → IsMerging net still lives (k + 1) keys' fates' listed'
step_joins net still lives k keys keys' fates fates' listed listed' is_system inside live rows m joins =
    let K = has (kept net still lives) in
    let under = m.only (key_at net still k) joins.number joins.known in
    let j = under.0 in
    let below : j < k = under.1.before in
    let kept_j : has (kept net still lives) j ≡ true = under.1.is_kept in
    let live_j : has lives j ≡ true = (kept-live net still lives j kept_j).1 in
    let equal : are_equal net still j k ≡ true = agree_from_key net still j k is_system (omega arith) inside under.1.has_key in
    let gone : has (kept net still lives) k ≡ false = kept-not net still lives k j below live_j equal in
    let number : joins.number ≡ rank (has (kept net still lives)) j = some_same joins.number (rank (has (kept net still lives)) j) (sym joins.known ∙ ap (number_of keys) (sym under.1.has_key) ∙ m.found j below kept_j) in
    let first : least (size net) (λ i. has lives i && are_equal net still i k) 0 ≡ j =
    least_at (size net) 0 j (λ i. has lives i && are_equal net still i k) (omega arith) (omega arith) (and_from (has lives j) (are_equal net still j k) live_j equal) (λ i low high both.
    let parts = and_parts (has lives i) (are_equal net still i k) both in
    kept-first net still lives j i kept_j high parts.0 (equal_from net still i j (agree_both net still i k j (agree_from net still i k parts.1) (agree_back net still j k (agree_from net still j k equal))))) in
    let fate : fate_among net still lives (kept net still lives) k ≡ Merged joins.number =
    fate_by net still lives (kept net still lives) k false true (some_below (rounds net) (is_dead net k)) gone live refl
    ∙ ap (λ i. Merged (rank (has (kept net still lives)) i)) first ∙ ap Merged (sym number) in
    record {
      told = told_more (fate_among net still lives (kept net still lives)) k fates fates' (Merged joins.number) m.told joins.told fate;
      listing = joins.same ∙ m.listing ∙ sym (listed_same (on_stays net still) (has (kept net still lives)) k gone);
      found = λ i low here. elim (cases_eq i k) [
        | inl same ↦ absurd (false≢true (sym gone ∙ ap (has (kept net still lives)) (sym same) ∙ here))
        | inr away ↦ ap (λ (map : Keys). number_of map (key_at net still i)) joins.same_keys ∙ m.found i (omega arith) here
      ];
      only = λ key n known. (
          let old = m.only key n (ap (λ (map : Keys). number_of map key) (sym joins.same_keys) ∙ known) in
          (old.0, record { before = (let low = old.1.before in omega arith); is_kept = old.1.is_kept; has_key = old.1.has_key })
          );
      rows = all_rows net still lives k keys fates listed live rows m;
    }

-- a live instance whose key has none
is_at_same : (key q : List ℕ) → key ≡ q → is_eq (slice_cmp nat_cmp key q) ≡ true
is_at_same key q same = is_eq-slice_cmp key q ∙ (bytes_eq-Decides key q).1 same

is_at_other : (key q : List ℕ) → key ≢ q → is_eq (slice_cmp nat_cmp key q) ≡ false
is_at_other key q apart = is_eq-slice_cmp key q ∙ false_from_ne_true (bytes_eq key q) (λ e. apart ((bytes_eq-Decides key q).0 e))

begins_here : (key q : List ℕ) (t : Instance) (keys keys' : Keys) (fates fates' : List Fate) (listed listed' : List Instance) → Begins key t keys keys' fates fates' listed listed' → key ≡ q → number_of keys' q ≡ Some (length listed)
begins_here key q t keys keys' fates fates' listed listed' b same = b.numbered.0 q ∙ ap (λ (c : Bool). cond c (Some (length listed)) (number_of keys q)) (is_at_same key q same)

begins_away : (key q : List ℕ) (t : Instance) (keys keys' : Keys) (fates fates' : List Fate) (listed listed' : List Instance) → Begins key t keys keys' fates fates' listed listed' → key ≢ q → number_of keys' q ≡ number_of keys q
begins_away key q t keys keys' fates fates' listed listed' b apart = b.numbered.0 q ∙ ap (λ (c : Bool). cond c (Some (length listed)) (number_of keys q)) (is_at_other key q apart)

pub step_begins : (net : NetSystem) (still lives : List Bool) (k : ℕ) (keys keys' : Keys) (fates fates' : List Fate) (listed listed' : List Instance) → IsSystem net → k < size net → has lives k ≡ true → HasRows net k
    → IsMerging net still lives k keys fates listed → Begins (key_at net still k) (on_stays net still k) keys keys' fates fates' listed listed' → IsMerging net still lives (k + 1) keys' fates' listed'
step_begins net still lives k keys keys' fates fates' listed listed' is_system inside live rows m b =
    let none : (j : ℕ) → j < k → has (kept net still lives) j ≡ true → key_at net still j ≡ key_at net still k → ⊥ =
    λ j below here same. none-some (rank (has (kept net still lives)) j) (sym b.unknown ∙ ap (number_of keys) (sym same) ∙ m.found j below here) in
    let alone : some_below k (λ j. has lives j && are_equal net still j k) ≡ false =
    false_from_ne_true (some_below k (λ j. has lives j && are_equal net still j k)) (λ some.
    let earlier = some-at k (λ j. has lives j && are_equal net still j k) some in
    let parts = and_parts (has lives earlier.0) (are_equal net still earlier.0 k) earlier.2 in
    let below : earlier.0 < k = earlier.1 in
    let r = represented net still lives (suc earlier.0) earlier.0 (omega arith) (omega arith) parts.0 in
    let low : r.0 ≤ earlier.0 = r.1.low in
    let lives_r = kept-live net still lives r.0 r.1.is_kept in
    let agree = agree_both net still r.0 earlier.0 k r.1.agree (agree_from net still earlier.0 k parts.1) in
    none r.0 (omega arith) r.1.is_kept (key_from_equal net still r.0 k is_system lives_r.0 inside (m.rows r.0 (omega arith) lives_r.1) rows (equal_from net still r.0 k agree))) in
    let here : has (kept net still lives) k ≡ true = kept-from net still lives k inside live alone in
    let long : length listed ≡ rank (has (kept net still lives)) k = ap length m.listing ∙ length-map (numbers k (has (kept net still lives))) (on_stays net still) in
    let fate : fate_among net still lives (kept net still lives) k ≡ Kept (length listed) =
    fate_by net still lives (kept net still lives) k true true (some_below (rounds net) (is_dead net k)) here live refl ∙ ap Kept (sym long) in
    record {
      told = told_more (fate_among net still lives (kept net still lives)) k fates fates' (Kept (length listed)) m.told b.told fate;
      listing = b.more ∙ ap (λ (ts : List Instance). ts ++ on_stays net still k ∷ []) m.listing ∙ sym (listed_more (on_stays net still) (has (kept net still lives)) k here);
      found = λ i low kept_i. elim (cases_eq i k) [
        | inl same ↦
            begins_here (key_at net still k) (key_at net still i) (on_stays net still k) keys keys' fates fates' listed listed' b (ap (key_at net still) (sym same))
            ∙ ap Some (long ∙ ap (rank (has (kept net still lives))) (sym same))
        | inr away ↦
            begins_away (key_at net still k) (key_at net still i) (on_stays net still k) keys keys' fates fates' listed listed' b (λ same. none i (omega arith) kept_i (sym same))
            ∙ m.found i (omega arith) kept_i
      ];
      only = λ key n known. elim (cases_Bool (bytes_eq (key_at net still k) key)) [
        | inl same ↦ (k, record { before = omega arith; is_kept = here; has_key = (bytes_eq-Decides (key_at net still k) key).0 same })
        | inr apart ↦
            let old = m.only key n (sym (begins_away (key_at net still k) key (on_stays net still k) keys keys' fates fates' listed listed' b (λ same. false≢true (sym apart ∙ (bytes_eq-Decides (key_at net still k) key).1 same))) ∙ known) in
            (old.0, record { before = (let low = old.1.before in omega arith); is_kept = old.1.is_kept; has_key = old.1.has_key })
      ];
      rows = all_rows net still lives k keys fates listed live rows m;
    }

-- fewer are kept than there are instances
pub few_listed : (net : NetSystem) (still lives : List Bool) (k : ℕ) (keys : Keys) (fates : List Fate) (listed : List Instance) → IsSystem net → k < size net → IsMerging net still lives k keys fates listed → length listed < 2 ^ 32
few_listed net still lives k keys fates listed is_system inside m =
    let long : length listed ≡ rank (has (kept net still lives)) k = ap length m.listing ∙ length-map (numbers k (has (kept net still lives))) (on_stays net still) in
    let le = rank-le k (has (kept net still lives)) in
    let bound = is_system.instances in
    omega arith

-- the cells of the kept ones and of one more instance are some of those of the net
pub few_inputs : (net : NetSystem) (still lives : List Bool) (k : ℕ) (keys : Keys) (fates : List Fate) (listed : List Instance) → IsSystem net → k < size net → IsMerging net still lives k keys fates listed → sum_by (λ t. length t.pre) listed + length (on_stays net still k).pre < 2 ^ 32
few_inputs net still lives k keys fates listed is_system inside m =
    let none : Instance = record { transition = 0; binding = 0; pre = []; post = [] } in
    let K = numbers k (has (kept net still lives)) in
    let sums = numbers_sum net.instances (λ t. length t.pre) (λ i. length (on_stays net still i).pre) none (has (kept net still lives)) (λ i low. row_on-length (stays still) (instance_at net i).pre) k (omega arith) in
    let listed_sum = ap (sum_by (λ t. length t.pre)) m.listing ∙ sum_by-map (λ (t : Instance). length t.pre) (on_stays net still) K in
    let here = row_on-length (stays still) (instance_at net k).pre in
    let part = sum_by_more_le (λ t. length t.pre) net.instances k none inside in
    let bound = is_system.inputs in
    omega arith

pub few_outputs : (net : NetSystem) (still lives : List Bool) (k : ℕ) (keys : Keys) (fates : List Fate) (listed : List Instance) → IsSystem net → k < size net → IsMerging net still lives k keys fates listed → sum_by (λ t. length t.post) listed + length (on_stays net still k).post < 2 ^ 32
few_outputs net still lives k keys fates listed is_system inside m =
    let none : Instance = record { transition = 0; binding = 0; pre = []; post = [] } in
    let K = numbers k (has (kept net still lives)) in
    let sums = numbers_sum net.instances (λ t. length t.post) (λ i. length (on_stays net still i).post) none (has (kept net still lives)) (λ i low. row_on-length (stays still) (instance_at net i).post) k (omega arith) in
    let listed_sum = ap (sum_by (λ t. length t.post)) m.listing ∙ sum_by-map (λ (t : Instance). length t.post) (on_stays net still) K in
    let here = row_on-length (stays still) (instance_at net k).post in
    let part = sum_by_more_le (λ t. length t.post) net.instances k none inside in
    let bound = is_system.outputs in
    omega arith

-- before the first instance
pub merging_first : (net : NetSystem) (still lives : List Bool) (keys : Keys) (fates : List Fate) (listed : List Instance) → keys.entries ≡ [] → fates ≡ [] → listed ≡ [] → IsMerging net still lives 0 keys fates listed
unfolding numbers
merging_first net still lives keys fates listed none no_fates no_kept = record {
  told = no_fates;
  listing = no_kept;
  found = λ j below here. absurd (omega arith);
  only = λ key number known. absurd (none-some number (sym (ap (λ (es : List (List ℕ × ℕ)). lookup (is_at (slice_cmp nat_cmp key)) es) none) ∙ known));
  rows = λ j below live. absurd (omega arith);
}
