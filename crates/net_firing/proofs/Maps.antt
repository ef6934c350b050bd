-- Markings as finite maps, and lists of counts.
use Rattle.std.proofs.Common.{◌≡◌, ℕ, zero, suc, ◌+◌, ◌<◌, ◌≤◌, Bool, true, false, cond, List, [], ◌∷◌, map, length, get_or, refl, sym, ap, subst, ◌∙◌, arith, Some, None}
use Rattle.std.specs.Prelude.{Option, is_some, slice_get, slice_index}
use Rattle.std.specs.Cmp.Lexicographic.{slice_cmp, nat_list_cmp_total}
use Rattle.std.specs.FinMap as finite
use Rattle.std.specs.Option.{unwrap_or}
use Rattle.std.specs.Ordering.{eq_by_cmp, nat_cmp}
use Rattle.std.specs.Str.{bytes_eq}
use Rattle.std.proofs.lemmas.Map.Text.{is_eq-slice_cmp}
use Rattle.std.proofs.lemmas.Slice.Eq.{bytes_eq-Decides}
use Rattle.net_firing.specs.Coloured.{ColouredNet}
use Rattle.net_firing.specs.Laws.{CountsAreMarkings, start_of}
use Rattle.net_firing.specs.Markings.{HasColour, IsMarking, Marking, at_start, initial, key, marking_of, pairs, tokens}
use Rattle.net_firing.specs.Unfolding.{Flat, counts}
use Rattle.net_firing.proofs.Lists.{same_some}
use Rattle.net_firing.proofs.Places.{counts_by, index_at, instance_at, many, numbered, same_counts}

abbrev compared : List ℕ → List ℕ → Bool
compared q r = eq_by_cmp (slice_cmp nat_cmp) q r

-- keys that tie are the same, and a key ties with itself
tied : (q r : List ℕ) → compared q r ≡ true → q ≡ r
tied q r e = (bytes_eq-Decides q r).0 (sym (is_eq-slice_cmp q r) ∙ e)

ties : (q : List ℕ) → compared q q ≡ true
ties q = is_eq-slice_cmp q q ∙ (bytes_eq-Decides q q).1 refl

key_place : (p k q l : ℕ) → key p k ≡ key q l → p ≡ q
key_place p k q l e = ap (λ xs. slice_index xs 0) e

key_colour : (p k q l : ℕ) → key p k ≡ key q l → k ≡ l
key_colour p k q l e = ap (λ xs. slice_index xs 1) e

abbrev entry : (ℕ → ℕ → ℕ) → ℕ × ℕ → List ℕ × ℕ
entry count e = (key e.0 e.1, count e.0 e.1)

abbrev find : List ℕ → List (List ℕ × ℕ) → Option ℕ
find q es = finite.find (slice_cmp nat_cmp) q es

-- what stands in the list is found
found_by : (count : ℕ → ℕ → ℕ) (b : Bool) (p k : ℕ) (e : ℕ × ℕ) (rest : Option ℕ) → compared (key p k) (key e.0 e.1) ≡ b → (b ≡ false → rest ≡ Some (count p k))
    → cond b (Some (count e.0 e.1)) rest ≡ Some (count p k)
found_by count true p k e rest is behind =
    let same = tied (key p k) (key e.0 e.1) is in
    ap (λ q. Some (count q e.1)) (sym (key_place p k e.0 e.1 same)) ∙ ap (λ c. Some (count p c)) (sym (key_colour p k e.0 e.1 same))
found_by count false p k e rest is behind = behind refl

found : (count : ℕ → ℕ → ℕ) (es : List (ℕ × ℕ)) (i p k : ℕ) → slice_get es i ≡ Some (p, k) → find (key p k) (map (entry count) es) ≡ Some (count p k)
found count [] i p k e = absurd (none i e)
  where
    none : {A : Type 0} {x : A} (i : ℕ) → slice_get [] i ≡ Some x → ⊥
    none i e = cc
found count (x ∷ es) zero p k e =
    found_by count (compared (key p k) (key x.0 x.1)) p k x (find (key p k) (map (entry count) es)) refl
    (λ apart. absurd (clash (sym apart ∙ ap (λ (c : ℕ × ℕ). compared (key p k) (key c.0 c.1)) (same_some x (p, k) e) ∙ ties (key p k))))
  where
    clash : false ≡ true → ⊥
    clash e = cc
found count (x ∷ es) (suc i) p k e =
    found_by count (compared (key p k) (key x.0 x.1)) p k x (find (key p k) (map (entry count) es)) refl (λ _. found count es i p k e)

-- what is found stands in the list
pub record IsListed (es : List (ℕ × ℕ)) (q : List ℕ) : Type 0 where
  pub at : ℕ
  pub pair : ℕ × ℕ
  pub there : slice_get es at ≡ Some pair
  pub is : q ≡ key pair.0 pair.1

listed_by : (count : ℕ → ℕ → ℕ) (b : Bool) (x : ℕ × ℕ) (es : List (ℕ × ℕ)) (q : List ℕ) (rest : Option ℕ) → compared q (key x.0 x.1) ≡ b → (is_some rest ≡ true → IsListed es q)
    → is_some (cond b (Some (count x.0 x.1)) rest) ≡ true → IsListed (x ∷ es) q
listed_by count true x es q rest is behind some = record { at = 0; pair = x; there = refl; is = tied q (key x.0 x.1) is }
listed_by count false x es q rest is behind some = let more = behind some in record { at = suc more.at; pair = more.pair; there = more.there; is = more.is }

listed : (count : ℕ → ℕ → ℕ) (es : List (ℕ × ℕ)) (q : List ℕ) → is_some (find q (map (entry count) es)) ≡ true → IsListed es q
listed count [] q some = absurd (clash some)
  where
    clash : false ≡ true → ⊥
    clash e = cc
listed count (x ∷ es) q some = listed_by count (compared q (key x.0 x.1)) x es q (find q (map (entry count) es)) refl (λ more. listed count es q more) some

got : (net : ColouredNet) (count : ℕ → ℕ → ℕ) (q : List ℕ) → finite.get (marking_of net count) q ≡ find q (map (entry count) (pairs net))
got net count q = finite.get-from_entries nat_list_cmp_total (map (entry count) (pairs net)) q

made_at : (net : ColouredNet) (count : ℕ → ℕ → ℕ) (p k : ℕ) → HasColour net p k → finite.get (marking_of net count) (key p k) ≡ Some (count p k)
made_at net count p k has = got net count (key p k) ∙ found count (pairs net) (start_of net p + k) p k (numbered net p k has)

-- the marking with some counts
pub made_tokens : (net : ColouredNet) (count : ℕ → ℕ → ℕ) (p k : ℕ) → HasColour net p k → tokens (marking_of net count) p k ≡ count p k
made_tokens net count p k has = ap (λ o. unwrap_or o 0) (made_at net count p k has)

pub made_marking : (net : ColouredNet) (count : ℕ → ℕ → ℕ) → IsMarking net (marking_of net count)
made_marking net count = record {
  each = λ p k has. ap is_some (made_at net count p k has);
  only = λ q some.
      (let here = listed count (pairs net) q (sym (ap is_some (got net count q)) ∙ some) in
      let known = instance_at net here.at here.pair here.there in
      (here.pair.0, (here.pair.1, (here.is, known.colour))));
}

pub made_flat : (net : ColouredNet) (count : ℕ → ℕ → ℕ) → Flat net (marking_of net count) ≡ counts net count
made_flat net count = counts_by net (tokens (marking_of net count)) (counts net count) (many net count) (λ p k has. made_tokens net count p k has ∙ sym (index_at net count p k has))

-- markings with the same counts are the same
same_found : (a b : Option ℕ) → is_some a ≡ true → is_some b ≡ true → unwrap_or a 0 ≡ unwrap_or b 0 → a ≡ b
same_found (Some x) (Some y) one two same = ap Some same
same_found None b one two same = cc
same_found a None one two same = cc

same_none : (a b : Option ℕ) → is_some a ≡ false → is_some b ≡ false → a ≡ b
same_none None None one two = refl
same_none (Some x) b one two = cc
same_none a (Some y) one two = cc

same_at : (net : ColouredNet) (m n : Marking) → IsMarking net m → IsMarking net n → ((p k : ℕ) → HasColour net p k → tokens m p k ≡ tokens n p k) → (q : List ℕ)
    → (a b : Bool) → is_some (finite.get m q) ≡ a → is_some (finite.get n q) ≡ b → finite.get m q ≡ finite.get n q
same_at net m n one two same q true b has other =
    let where_is = one.only q has in
    let there = subst (λ r. is_some (finite.get n r) ≡ true) (sym where_is.1.1.0) (two.each where_is.0 where_is.1.0 where_is.1.1.1) in
    same_found (finite.get m q) (finite.get n q) has there
    (subst (λ r. unwrap_or (finite.get m r) 0 ≡ unwrap_or (finite.get n r) 0) (sym where_is.1.1.0) (same where_is.0 where_is.1.0 where_is.1.1.1))
same_at net m n one two same q false true has other =
    let where_is = two.only q other in
    let there = subst (λ r. is_some (finite.get m r) ≡ true) (sym where_is.1.1.0) (one.each where_is.0 where_is.1.0 where_is.1.1.1) in
    absurd (clash (sym has ∙ there))
  where
    clash : false ≡ true → ⊥
    clash e = cc
same_at net m n one two same q false false has other = same_none (finite.get m q) (finite.get n q) has other

pub same_marking : (net : ColouredNet) (m n : Marking) → IsMarking net m → IsMarking net n → ((p k : ℕ) → HasColour net p k → tokens m p k ≡ tokens n p k) → m ≡ n
same_marking net m n one two same =
    finite.same_map nat_list_cmp_total (finite.slice_cmp-IsAntisymmetric finite.nat_cmp-IsAntisymmetric) m n
    (λ q. same_at net m n one two same q (is_some (finite.get m q)) (is_some (finite.get n q)) refl refl)

pub one_flat : (net : ColouredNet) (m n : Marking) → IsMarking net m → IsMarking net n → Flat net m ≡ Flat net n → m ≡ n
one_flat net m n one two e = same_marking net m n one two (same_counts net (tokens m) (tokens n) e)

pub starts : (net : ColouredNet) → IsMarking net (initial net) × (Flat net (initial net) ≡ counts net (at_start net))
starts net = (made_marking net (at_start net), made_flat net (at_start net))

pub some_flat : (net : ColouredNet) (xs : List ℕ) → length xs ≡ length (pairs net) → (m : Marking) × (IsMarking net m × (Flat net m ≡ xs))
some_flat net xs long =
    let count : ℕ → ℕ → ℕ = λ p k. slice_index xs (start_of net p + k) in
    (marking_of net count, (made_marking net count, made_flat net count ∙ counts_by net count xs long (λ p k has. refl)))

pub all_counts : (net : ColouredNet) → CountsAreMarkings net
all_counts net = record { many = λ m. many net (tokens m); one = one_flat net; some = some_flat net; numbered = numbered net; starts = starts net }
