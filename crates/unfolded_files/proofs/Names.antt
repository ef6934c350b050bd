-- The ids of the instances of a net's places and transitions.
use Rattle.std.proofs.Common.{◌≡◌, ℕ, zero, suc, ◌+◌, ◌-◌, ◌<◌, ◌≤◌, ◌^◌, ◌⊎◌, inl, inr, Bool, true, false, List, [], ◌∷◌, ◌++◌, map, length, get_or, refl, sym, ap, subst, ◌∙◌, arith, length-append, All}
use Rattle.std.specs.Prelude.{slice_index}
use Rattle.std.specs.List.{AllByRecursion, IsDistinct, range_with_len}
use Rattle.std.specs.List.Sorted.{IsNonDecreasing}
use Rattle.std.specs.Str.{bytes_eq}
use Rattle.std.proofs.lemmas.Bool.{cases_lt}
use Rattle.std.proofs.lemmas.List.{get_or-map, get_or_default, length-map}
use Rattle.std.proofs.lemmas.List.Elements.{All-from_recursion, All-map, All-weaker, recursion_from_All}
use Rattle.std.proofs.lemmas.List.FromFn.{get_or-map-range_with_len, length-map-range_with_len}
use Rattle.std.proofs.lemmas.Map.Keys.{IsDistinct-from_apart, IsDistinct-head, IsDistinct-tail, apart_from_distinct}
use Rattle.std.proofs.lemmas.Slice.Eq.{bytes_eq-Decides}
use Rattle.name_tables.specs.Grammar.{is_id_text}
use Rattle.pt_net.specs.declared.instances.Instance.{Instance}
use Rattle.pt_net.specs.Instances.{IsBefore, origin_of}
use Rattle.pt_net.specs.Numbering.{IsNumbering, NetNumbering}
use Rattle.pt_net.specs.Systems.{IsSystem, NetSystem}
use Rattle.unfolded_files.specs.Files.{instance_id, place_ids, place_ids_of, transition_id, transition_ids}
use Rattle.unfolded_files.specs.Ids.{AreInstanceIds, AreNumbersOf, HasOwnNames, HaveInstanceIds, IsInstanceId}
use Rattle.unfolded_files.specs.Laws.{AreNamed}
use Rattle.unfolded_files.proofs.Texts.{distinct_both, instance_is_id, instance_parts, not_same, told_apart}

-- the ids of the instances of one place
abbrev block : List ℕ → ℕ → List (List ℕ)
block id size = map (instance_id id) (range_with_len 0 size)

-- an instance of something that passes a test
abbrev Of : (List ℕ → Type 0) → List ℕ → Type 0
Of P name = (x : List ℕ) × ((k : ℕ) × ((name ≡ instance_id x k) × (P x × (k < 2 ^ 64))))

of_range : (P : List ℕ → Type 0) (id : List ℕ) (first size : ℕ) → P id → first + size ≤ 2 ^ 64 → AllByRecursion (Of P) (map (instance_id id) (range_with_len first size))
of_range P id first zero is le = tt
of_range P id first (suc size) is le = ((id, (first, (refl, (is, omega (arith, le))))), of_range P id (first + 1) size is (omega (arith, le)))

all_both : (P : List ℕ → Type 0) (xs ys : List (List ℕ)) → AllByRecursion P xs → AllByRecursion P ys → AllByRecursion P (xs ++ ys)
all_both P [] ys one two = two
all_both P (x ∷ xs) ys one two = (one.0, all_both P xs ys one.1 two)

-- starts below a bound
abbrev AreLow : List ℕ → Type 0
AreLow starts = AllByRecursion (λ n. n < 2 ^ 32) starts

of_places : (P : List ℕ → Type 0) (ids : List (List ℕ)) (starts : List ℕ) → AllByRecursion P ids → AreLow starts → AllByRecursion (Of P) (place_ids_of ids starts)
of_places P [] starts are low = tt
of_places P (id ∷ ids) [] are low = tt
of_places P (id ∷ ids) (first ∷ []) are low = tt
of_places P (id ∷ ids) (first ∷ next ∷ more) are low =
    let under = low.1.0 in
    all_both (Of P) (block id (next - first)) (place_ids_of ids (next ∷ more)) (of_range P id 0 (next - first) are.0 (omega (arith, under))) (of_places P ids (next ∷ more) are.1 low.1)

-- ids of instances of places that differ
block_distinct : (id : List ℕ) (size : ℕ) → size ≤ 2 ^ 64 → IsDistinct bytes_eq (block id size)
block_distinct id size le = IsDistinct-from_apart bytes_eq (block id size) (λ i j d low within.
    (let long = length-map-range_with_len (instance_id id) 0 size in
    ap (λ x. bytes_eq x (get_or (block id size) j d)) (get_or-map-range_with_len (instance_id id) 0 size i i d (omega (arith, low, within, long)) (omega arith))
    ∙ ap (bytes_eq (instance_id id i)) (get_or-map-range_with_len (instance_id id) 0 size j j d (omega (arith, within, long)) (omega arith))
    ∙ told_apart (instance_id id i) (instance_id id j) (λ same. (let parts = instance_parts id id i j (omega (arith, low, within, long, le)) (omega (arith, within, long, le)) same in let number = parts.number in absurd (omega (arith, number, low))))))

one_apart : (id : List ℕ) (k : ℕ) (names : List (List ℕ)) → k < 2 ^ 64 → AllByRecursion (Of (λ x. bytes_eq id x ≡ false)) names → AllByRecursion (λ y. bytes_eq (instance_id id k) y ≡ false) names
one_apart id k [] small of = tt
one_apart id k (name ∷ names) small of =
    let first = of.0 in
    (told_apart (instance_id id k) name (λ same. not_same id first.0 first.1.1.1.0 (instance_parts id first.0 k first.1.0 small first.1.1.1.1 (same ∙ first.1.1.0)).name), one_apart id k names small of.1)

block_apart : (id : List ℕ) (first size : ℕ) (names : List (List ℕ)) → first + size ≤ 2 ^ 64 → AllByRecursion (Of (λ x. bytes_eq id x ≡ false)) names
    → AllByRecursion (λ x. AllByRecursion (λ y. bytes_eq x y ≡ false) names) (map (instance_id id) (range_with_len first size))
block_apart id first zero names le of = tt
block_apart id first (suc size) names le of = (one_apart id first names (omega (arith, le)) of, block_apart id (first + 1) size names (omega (arith, le)) of)

none_distinct : IsDistinct bytes_eq []
unfolding IsDistinct
none_distinct = tt

places_distinct : (ids : List (List ℕ)) (starts : List ℕ) → IsDistinct bytes_eq ids → AreLow starts → IsDistinct bytes_eq (place_ids_of ids starts)
places_distinct [] starts differ low = none_distinct
places_distinct (id ∷ ids) [] differ low = none_distinct
places_distinct (id ∷ ids) (first ∷ []) differ low = none_distinct
places_distinct (id ∷ ids) (first ∷ next ∷ more) differ low =
    let under = low.1.0 in
    distinct_both (block id (next - first)) (place_ids_of ids (next ∷ more)) (block_distinct id (next - first) (omega (arith, under)))
    (places_distinct ids (next ∷ more) (IsDistinct-tail bytes_eq id ids differ) low.1)
    (block_apart id 0 (next - first) (place_ids_of ids (next ∷ more)) (omega (arith, under)) (of_places (λ x. bytes_eq id x ≡ false) ids (next ∷ more) (IsDistinct-head bytes_eq id ids differ) low.1))

-- how many there are
places_many : (ids : List (List ℕ)) (starts : List ℕ) → IsNonDecreasing starts → length starts ≡ length ids + 1 → length (place_ids_of ids starts) + slice_index starts 0 ≡ slice_index starts (length ids)
places_many [] starts rising long = omega arith
places_many (id ∷ ids) [] rising long = absurd (omega (arith, long))
places_many (id ∷ ids) (first ∷ []) rising long = absurd (omega (arith, long))
places_many (id ∷ ids) (first ∷ next ∷ more) rising long =
    let step : first ≤ next = rising 0 1 0 (omega arith) (omega arith) in
    let rest = places_many ids (next ∷ more) (λ i j d le within. rising (suc i) (suc j) d (omega (arith, le)) (omega (arith, within))) (omega (arith, long)) in
    let here = length-map-range_with_len (instance_id id) 0 (next - first) in
    omega (arith, length-append (block id (next - first)) (place_ids_of ids (next ∷ more)), here, rest, step)

-- each start is below a bound where the last is
starts_low : (starts : List ℕ) (last : ℕ) → IsNonDecreasing starts → length starts ≡ last + 1 → slice_index starts last < 2 ^ 32 → AreLow starts
starts_low starts last rising long low = recursion_from_All (λ n. n < 2 ^ 32) starts (λ k d within.
    (let most = rising k last 0 (omega (arith, within, long)) (omega (arith, long)) in
    let same : get_or starts k d ≡ get_or starts k 0 = get_or_default starts k d 0 within in
    omega (arith, most, low, same)))

-- distinct names at two places
one_place : (names : List (List ℕ)) (i j : ℕ) → IsDistinct bytes_eq names → i < length names → j < length names → get_or names i [] ≡ get_or names j [] → i ≡ j
one_place names i j differ first second same = elim (cases_lt i j) [
  | inl low ↦ absurd (not_same (get_or names i []) (get_or names j []) (apart_from_distinct bytes_eq names i j [] differ low second) same)
  | inr high ↦ elim (cases_lt j i) [
    | inl low ↦ absurd (not_same (get_or names j []) (get_or names i []) (apart_from_distinct bytes_eq names j i [] differ low first) (sym same))
    | inr over ↦ omega (arith, high, over)
  ]
]

abbrev no_instance : Instance
no_instance = record { transition = 0; binding = 0; pre = []; post = [] }

transitions_distinct : (l : NetNumbering) (u : NetSystem) → HasOwnNames l → AreNumbersOf l u → IsDistinct bytes_eq (transition_ids l u)
transitions_distinct l u own of = IsDistinct-from_apart bytes_eq (transition_ids l u) (λ i j d low within.
    (let long = length-map u.instances (transition_id l) in
    let s = get_or u.instances i no_instance in
    let t = get_or u.instances j no_instance in
    let early : i < length u.instances = omega (arith, low, within, long) in
    let late : j < length u.instances = omega (arith, within, long) in
    let first : get_or (transition_ids l u) i d ≡ transition_id l s = get_or-map (transition_id l) u.instances i no_instance d early in
    let second : get_or (transition_ids l u) j d ≡ transition_id l t = get_or-map (transition_id l) u.instances j no_instance d late in
    let before : IsBefore (origin_of s) (origin_of t) = of.system.rising i j no_instance low late in
    ap (λ x. bytes_eq x (get_or (transition_ids l u) j d)) first
    ∙ ap (bytes_eq (transition_id l s)) second
    ∙ told_apart (transition_id l s) (transition_id l t) (λ same.
    (let small = of.bindings i no_instance early in
    let few = of.bindings j no_instance late in
    let parts = instance_parts (get_or l.transitions s.transition []) (get_or l.transitions t.transition []) s.binding t.binding (omega (arith, small)) (omega (arith, few)) same in
    let one = one_place l.transitions s.transition t.transition own.transitions_differ (of.transitions i no_instance early) (of.transitions j no_instance late) parts.name in
    let less = before.binding one in
    let number = parts.number in
    absurd (omega (arith, less, number))))))

-- a transition and a place are told apart
transition_apart : (l : NetNumbering) (t : Instance) (names : List (List ℕ)) → t.binding < 2 ^ 32 → AllByRecursion (Of (λ x. bytes_eq (get_or l.transitions t.transition []) x ≡ false)) names
    → AllByRecursion (λ p. bytes_eq (transition_id l t) p ≡ false) names
transition_apart l t names small of = one_apart (get_or l.transitions t.transition []) t.binding names (omega (arith, small)) of

low_starts : (l : NetNumbering) (u : NetSystem) → AreNumbersOf l u → AreLow l.starts
low_starts l u of =
    let last = of.places in
    let few = of.system.places in
    starts_low l.starts (length l.places) of.numbering.rising of.numbering.one_more (omega (arith, last, few))

named_by : (l : NetNumbering) (u : NetSystem) → HasOwnNames l → AreNumbersOf l u → AreNamed (place_ids l) (transition_ids l u) u
named_by l u own of = record {
  each_place =
      (let many = places_many l.places l.starts of.numbering.rising of.numbering.one_more in
      let begins = of.numbering.begins in
      let last = of.places in
      omega (arith, many, begins, last));
  each_transition = length-map u.instances (transition_id l);
  places_differ = places_distinct l.places l.starts own.places_differ (low_starts l u of);
  transitions_differ = transitions_distinct l u own of;
  apart = All-map (λ t. All (λ p. bytes_eq t p ≡ false) (place_ids l)) (transition_id l) u.instances (λ k d within.
      (let t = get_or u.instances k d in
      let here = own.apart t.transition [] (of.transitions k d within) in
      All-from_recursion (λ p. bytes_eq (transition_id l t) p ≡ false) (place_ids l)
      (transition_apart l t (place_ids l) (of.bindings k d within)
      (of_places (λ x. bytes_eq (get_or l.transitions t.transition []) x ≡ false) l.places l.starts (recursion_from_All (λ p. bytes_eq (get_or l.transitions t.transition []) p ≡ false) l.places here) (low_starts l u of)))));
}

text_of : (names : List (List ℕ)) → AllByRecursion (Of (λ x. is_id_text x ≡ true)) names → AllByRecursion (λ id. is_id_text id ≡ true) names
text_of [] of = tt
text_of (name ∷ names) of =
    let first = of.0 in
    (ap is_id_text first.1.1.0 ∙ instance_is_id first.0 first.1.0 first.1.1.1.0 first.1.1.1.1, text_of names of.1)

dotted_of : (names : List (List ℕ)) → AllByRecursion (Of (λ x. is_id_text x ≡ true)) names → AllByRecursion IsInstanceId names
dotted_of [] of = tt
dotted_of (name ∷ names) of = let first = of.0 in ((first.0, (first.1.0, first.1.1.0)), dotted_of names of.1)

pub instance_ids : (l : NetNumbering) (u : NetSystem) → HasOwnNames l → AreNumbersOf l u → HaveInstanceIds l u
instance_ids l u own of =
    let texts = of_places (λ x. is_id_text x ≡ true) l.places l.starts (recursion_from_All (λ id. is_id_text id ≡ true) l.places own.places) (low_starts l u of) in
    record {
      named = named_by l u own of;
      places = record { texts = All-from_recursion (λ id. is_id_text id ≡ true) (place_ids l) (text_of (place_ids l) texts); dotted = All-from_recursion IsInstanceId (place_ids l) (dotted_of (place_ids l) texts) };
      transitions = record {
        texts = All-map (λ id. is_id_text id ≡ true) (transition_id l) u.instances (λ k d within.
            (let t = get_or u.instances k d in
            let small = of.bindings k d within in
            instance_is_id (get_or l.transitions t.transition []) t.binding (own.transitions t.transition [] (of.transitions k d within)) (omega (arith, small))));
        dotted = All-map IsInstanceId (transition_id l) u.instances (λ k d within. (let t = get_or u.instances k d in (get_or l.transitions t.transition [], (t.binding, refl))));
      };
    }
