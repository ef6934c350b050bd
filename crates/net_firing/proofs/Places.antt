-- Place instances: the place and colour of each number, and the number of each place and colour.
use Rattle.std.proofs.Common.{◌≡◌, ℕ, zero, suc, ◌+◌, ◌<◌, ◌≤◌, ◌⊎◌, inl, inr, List, [], ◌∷◌, ◌++◌, map, take, length, get_or, refl, sym, ap, subst, ◌∙◌, arith, length-append, Some, sum_by}
use Rattle.std.specs.Prelude.{slice_get, slice_index}
use Rattle.std.specs.List.{range_with_len}
use Rattle.std.specs.Option.{option_map, unwrap_or}
use Rattle.std.proofs.lemmas.Bool.{cases_lt}
use Rattle.std.proofs.lemmas.List.{length-map, get_or-map, ext_get_or}
use Rattle.std.proofs.lemmas.List.FromFn.{length-range_with_len, get_or-range_with_len}
use Rattle.std.proofs.lemmas.List.Sums.{sum_by-cons}
use Rattle.std.proofs.lemmas.Option.{get_or_from_slice_get, slice_get-get_or, slice_get-map, slice_get_within}
use Rattle.net_firing.specs.Coloured.{ColouredNet, ColouredPlace}
use Rattle.net_firing.specs.Laws.{start_of}
use Rattle.net_firing.specs.Markings.{HasColour, pairs, pairs_from, place_at}
use Rattle.net_firing.specs.Unfolding.{counts}
use Rattle.net_firing.proofs.Lists.{IsLeft, IsRight, get-append, get-left, get-right, get_past, same_some}

abbrev pub start : List ColouredPlace → ℕ → ℕ
start places p = sum_by (λ place. place.size) (take p places)

abbrev row_of_place : ℕ → ℕ → List (ℕ × ℕ)
row_of_place p size = map (λ k. (p, k)) (range_with_len 0 size)

length-row : (p size : ℕ) → length (row_of_place p size) ≡ size
length-row p size = length-map (range_with_len 0 size) (λ k. (p, k)) ∙ length-range_with_len 0 size

in_row : (p size k : ℕ) → k < size → slice_get (row_of_place p size) k ≡ Some (p, k)
in_row p size k inside =
    slice_get-map (λ c. (p, c)) (range_with_len 0 size) k
    ∙ ap (option_map (λ c. (p, c))) (slice_get-get_or (range_with_len 0 size) k 0 (omega (arith, inside, length-range_with_len 0 size)))
    ∙ ap (λ c. Some (p, c)) (get_or-range_with_len 0 size k 0 inside ∙ omega arith)

-- the number of a place and colour
pub stands : (first : ℕ) (places : List ColouredPlace) (q k p : ℕ) → first + q ≡ p → k < (place_at places q).size → slice_get (pairs_from first places) (start places q + k) ≡ Some (p, k)
stands first [] q k p e inside = absurd (omega (arith, inside))
stands first (place ∷ places) zero k p e inside =
    let here : slice_get (row_of_place first place.size) k ≡ Some (first, k) = in_row first place.size k inside in
    let moved : first ≡ p = omega (arith, e) in
    let number : start (place ∷ places) 0 + k ≡ k = omega arith in
    ap (slice_get (pairs_from first (place ∷ places))) number
    ∙ get-left (row_of_place first place.size) (pairs_from (first + 1) places) k (first, k) here ∙ ap (λ n. Some (n, k)) moved
stands first (place ∷ places) (suc q) k p e inside =
    let rest = stands (first + 1) places q k p (omega (arith, e)) inside in
    let one : start (place ∷ places) (suc q) ≡ place.size + start places q = sum_by-cons (λ (other : ColouredPlace). other.size) place (take q places) in
    let number : start (place ∷ places) (suc q) + k ≡ length (row_of_place first place.size) + (start places q + k) = omega (arith, one, length-row first place.size) in
    get-right (row_of_place first place.size) (pairs_from (first + 1) places) (start places q + k) (start (place ∷ places) (suc q) + k) number
    ∙ rest

-- what has a number is a place and a colour
pub record IsPair (first : ℕ) (places : List ColouredPlace) (i : ℕ) (e : ℕ × ℕ) : Type 0 where
  pub place : ℕ
  pub first_is : first + place ≡ e.0
  pub colour : e.1 < (place_at places place).size
  pub number : i ≡ start places place + e.1

pub pair_at : (first : ℕ) (places : List ColouredPlace) (i : ℕ) (e : ℕ × ℕ) → slice_get (pairs_from first places) i ≡ Some e → IsPair first places i e
pair_at first [] i e is = absurd (none i is)
  where
    none : {A : Type 0} {x : A} (i : ℕ) → slice_get [] i ≡ Some x → ⊥
    none i e = cc
pair_at first (place ∷ places) i e is = elim (get-append (row_of_place first place.size) (pairs_from (first + 1) places) i e is) [
  | inl left ↦
      let inside : i < place.size = (let low = slice_get_within (row_of_place first place.size) i e left.there in omega (arith, low, length-row first place.size)) in
      let same : (first, i) ≡ e = same_some (first, i) e (sym (in_row first place.size i inside) ∙ left.there) in
      record {
        place = 0;
        first_is = omega (arith, ap (λ (c : ℕ × ℕ). c.0) same);
        colour = subst (λ (c : ℕ × ℕ). c.1 < place.size) same inside;
        number = (let is = ap (λ (c : ℕ × ℕ). c.1) same in omega (arith, is));
      }
  | inr right ↦
      let rest = pair_at (first + 1) places right.at e right.there in
      let one : start (place ∷ places) (suc rest.place) ≡ place.size + start places rest.place = sum_by-cons (λ (other : ColouredPlace). other.size) place (take rest.place places) in
      record {
        place = suc rest.place;
        first_is = (let is = rest.first_is in omega (arith, is));
        colour = rest.colour;
        number = (let place_is = right.place in let number_is = rest.number in omega (arith, place_is, number_is, one, length-row first place.size));
      }
]

pub numbered : (net : ColouredNet) (p k : ℕ) → HasColour net p k → slice_get (pairs net) (start_of net p + k) ≡ Some (p, k)
numbered net p k has = stands 0 net.places p k p (omega arith) has

-- a fact of each place instance, and of numbers past them
pub record IsInstance (net : ColouredNet) (i : ℕ) (e : ℕ × ℕ) : Type 0 where
  pub colour : HasColour net e.0 e.1
  pub number : i ≡ start_of net e.0 + e.1

pub instance_at : (net : ColouredNet) (i : ℕ) (e : ℕ × ℕ) → slice_get (pairs net) i ≡ Some e → IsInstance net i e
instance_at net i e is =
    let known = pair_at 0 net.places i e is in
    let same : known.place ≡ e.0 = (let is = known.first_is in omega (arith, is)) in
    record {
      colour = subst (λ p. e.1 < (place_at net.places p).size) same known.colour;
      number = known.number ∙ ap (λ p. start_of net p + e.1) same;
    }

pub at_each : (net : ColouredNet) (P : ℕ → Type 0) → ((p k : ℕ) → HasColour net p k → P (start_of net p + k)) → ((i : ℕ) → length (pairs net) ≤ i → P i) → (i : ℕ) → P i
at_each net P inside past i = elim (cases_lt i (length (pairs net))) [
  | inl low ↦
      let e = get_or (pairs net) i (0, 0) in
      let known = instance_at net i e (slice_get-get_or (pairs net) i (0, 0) low) in
      subst P (sym known.number) (inside e.0 e.1 known.colour)
  | inr high ↦ past i high
]

-- the count of a place instance, and past all
pub count_at : (net : ColouredNet) (f : ℕ → ℕ → ℕ) (p k : ℕ) → HasColour net p k → slice_get (counts net f) (start_of net p + k) ≡ Some (f p k)
count_at net f p k has =
    slice_get-map (λ (e : ℕ × ℕ). f e.0 e.1) (pairs net) (start_of net p + k) ∙ ap (option_map (λ (e : ℕ × ℕ). f e.0 e.1)) (numbered net p k has)

pub index_at : (net : ColouredNet) (f : ℕ → ℕ → ℕ) (p k : ℕ) → HasColour net p k → slice_index (counts net f) (start_of net p + k) ≡ f p k
index_at net f p k has = get_or_from_slice_get (counts net f) (start_of net p + k) (f p k) 0 (count_at net f p k has)

pub many : (net : ColouredNet) (f : ℕ → ℕ → ℕ) → length (counts net f) ≡ length (pairs net)
many net f = length-map (pairs net) (λ (e : ℕ × ℕ). f e.0 e.1)

pub past_all : (net : ColouredNet) (f : ℕ → ℕ → ℕ) (i : ℕ) → length (pairs net) ≤ i → slice_index (counts net f) i ≡ 0
past_all net f i high = get_past (counts net f) i (omega (arith, high, many net f))

-- lists of counts are told by each place and colour
pub same_counts : (net : ColouredNet) (f g : ℕ → ℕ → ℕ) → counts net f ≡ counts net g → (p k : ℕ) → HasColour net p k → f p k ≡ g p k
same_counts net f g e p k has = same_some (f p k) (g p k) (sym (count_at net f p k has) ∙ ap (λ xs. slice_get xs (start_of net p + k)) e ∙ count_at net g p k has)

pub counts_by : (net : ColouredNet) (f : ℕ → ℕ → ℕ) (xs : List ℕ) → length xs ≡ length (pairs net) → ((p k : ℕ) → HasColour net p k → f p k ≡ slice_index xs (start_of net p + k)) → counts net f ≡ xs
counts_by net f xs long same = ext_get_or 0 (counts net f) xs (many net f ∙ sym long) (λ i inside.
    at_each net (λ i. slice_index (counts net f) i ≡ slice_index xs i)
    (λ p k has. index_at net f p k has ∙ same p k has)
    (λ i high. past_all net f i high ∙ sym (get_past xs i (omega (arith, high, long)))) i)
