-- Tuples of compiled terms mean what those of the written terms mean.
use Rattle.std.proofs.Common.{◌≡◌, ℕ, ◌+◌, ◌*◌, ◌<◌, ◌≤◌, Bool, true, false, List, [], ◌∷◌, map, length, refl, sym, ap, ◌∙◌, subst, arith, Some}
use Rattle.std.specs.Prelude.{◌&&◌, nat_eq, if◌then◌else◌}
use Rattle.std.specs.List.{slice_get}
use Rattle.std.specs.Option.{option_map}
use Rattle.std.proofs.lemmas.List.{length-map}
use Rattle.std.proofs.lemmas.Option.{slice_get-map, slice_get_within}
use Rattle.colour_sorts.specs.declared.sorts.Colour.{Colour, out-Colour, out-roll-Colour}
use Rattle.colour_sorts.specs.declared.sorts.Colour.TheOpen as layer
use Rattle.colour_sorts.specs.Colours.{tuple, tuples}
use Rattle.colour_sorts.proofs.PlacesIn.{slice_get-mapped}
use Rattle.colour_sorts.proofs.Tuples.{length-tuples, place-tuples}
use Rattle.net_model.specs.declared.terms.Term.TheOpen as written
use Rattle.multiset_terms.specs.Agreeing.{AreChoices, AreOneColours, IsOneColour, TupleNodesAgree}
use Rattle.multiset_terms.specs.Context.{Context}
use Rattle.multiset_terms.specs.Laws.{AreComponents, IsOnce}
use Rattle.multiset_terms.specs.Trees as trees
use Rattle.multiset_terms.specs.Trees.{Reading, are_choices, are_colours, choices, most, most_colours, reading_of_parts, tuple_place, tuple_size}
use Rattle.multiset_terms.specs.Values.{Binding, Meaning, all_same, are_defined, counts_at, is_same, is_same_layer, meaning_part, tuple_count, tuple_count_layer}
use Rattle.multiset_terms.proofs.Agreement.{products-agree, split-place}
use Rattle.multiset_terms.proofs.Nodes.{one-at, test-of-eq, test-of-le, test-of-lt}
use Rattle.multiset_terms.proofs.SameColour.{same-roll}

abbrev colours-of : List Meaning → List Colour
colours-of ms = map (λ m. m.colour) ms

-- the place of a tuple of single colours
place-of : (lists : List (List Colour)) (ms : List Meaning) (rs : List Reading) → AreOneColours lists ms rs → (front : ℕ)
    → (w : ℕ) × (tuple_place front rs ≡ front * length (tuples lists) + w) × (slice_get (tuples lists) w ≡ Some (colours-of ms))
place-of [] [] [] known front = (0, plain front, refl)
  where
    plain : (n : ℕ) → n ≡ n * 1 + 0
    plain n = omega arith
place-of (colours ∷ lists) (m ∷ ms) (r ∷ rs) known front =
    let rest = place-of lists ms rs known.1 (front * r.size + r.place) in
    let n = length (tuples lists) in (
      r.place * n + rest.0,
      rest.1 ∙ sym (split-place front r.size n r.place rest.0) ∙ ap (λ s. front * s + (r.place * n + rest.0)) (ap (λ s. s * n) known.0.agreed.size ∙ sym (length-tuples colours lists)),
      place-tuples colours lists r.place rest.0 m.colour (colours-of ms) known.0.place rest.2,
    )
place-of [] [] (_ ∷ _) known front = absurd known
place-of [] (_ ∷ _) rs known front = absurd known
place-of (_ ∷ _) [] rs known front = absurd known
place-of (_ ∷ _) (_ ∷ _) [] known front = absurd known

size-of : (lists : List (List Colour)) (ms : List Meaning) (rs : List Reading) → AreOneColours lists ms rs → tuple_size rs ≡ length (tuples lists)
size-of [] [] [] known = refl
size-of (colours ∷ lists) (m ∷ ms) (r ∷ rs) known = ap (λ s. s * tuple_size rs) known.0.agreed.size ∙ ap (λ n. length colours * n) (size-of lists ms rs known.1) ∙ sym (length-tuples colours lists)
size-of [] [] (_ ∷ _) known = absurd known
size-of [] (_ ∷ _) rs known = absurd known
size-of (_ ∷ _) [] rs known = absurd known
size-of (_ ∷ _) (_ ∷ _) [] known = absurd known

are-colours : (lists : List (List Colour)) (ms : List Meaning) (rs : List Reading) → AreOneColours lists ms rs → (are_colours rs ≡ true) × (are_defined ms ≡ true)
are-colours [] [] [] known = (refl, refl)
are-colours (colours ∷ lists) (m ∷ ms) (r ∷ rs) known =
    let rest = are-colours lists ms rs known.1 in
    let inside : r.place < r.size = (let b = slice_get_within colours r.place m.colour known.0.place in omega (arith, b, known.0.agreed.size)) in
    (rw (known.0.agreed.sound, known.0.is_colour, known.0.is_choice, test-of-lt r.place r.size inside) rest.0, rw known.0.is_defined rest.1)
are-colours [] [] (_ ∷ _) known = absurd known
are-colours [] (_ ∷ _) rs known = absurd known
are-colours (_ ∷ _) [] rs known = absurd known
are-colours (_ ∷ _) (_ ∷ _) [] known = absurd known

-- how often a tuple is one that is known
if-both : (a b : Bool) → (if a then 1 else 0) * (if b then 1 else 0) ≡ (if a && b then 1 else 0)
if-both true true = refl
if-both true false = refl
if-both false true = refl
if-both false false = refl

counted-all : (lists : List (List Colour)) (ms : List Meaning) (rs : List Reading) → AreOneColours lists ms rs → (t : List Colour)
    → counts_at ms t ≡ (if all_same (map is_same (colours-of ms)) t then 1 else 0)
counted-all [] [] [] known [] = refl
counted-all [] [] [] known (c ∷ cs) = refl
counted-all (colours ∷ lists) (m ∷ ms) (r ∷ rs) known [] = refl
counted-all (colours ∷ lists) (m ∷ ms) (r ∷ rs) known (c ∷ cs) =
    ap (λ n. n * counts_at ms cs) (known.0.counted c)
    ∙ ap (λ n. (if is_same m.colour c then 1 else 0) * n) (counted-all lists ms rs known.1 cs)
    ∙ if-both (is_same m.colour c) (all_same (map is_same (colours-of ms)) cs)
counted-all [] [] (_ ∷ _) known t = absurd known
counted-all [] (_ ∷ _) rs known t = absurd known
counted-all (_ ∷ _) [] rs known t = absurd known
counted-all (_ ∷ _) (_ ∷ _) [] known t = absurd known

counted-layer : (lists : List (List Colour)) (ms : List Meaning) (rs : List Reading) → AreOneColours lists ms rs → (o : layer.Colour-F Colour)
    → tuple_count_layer ms o ≡ (if is_same_layer (layer.Tuple (map is_same (colours-of ms))) o then 1 else 0)
counted-layer lists ms rs known layer.Dot = refl
counted-layer lists ms rs known (layer.Constant _) = refl
counted-layer lists ms rs known (layer.Number _) = refl
counted-layer lists ms rs known (layer.Tuple t) = counted-all lists ms rs known t

counted-tuple : (lists : List (List Colour)) (ms : List Meaning) (rs : List Reading) → AreOneColours lists ms rs → (c : Colour)
    → tuple_count ms c ≡ (if is_same (tuple (colours-of ms)) c then 1 else 0)
counted-tuple lists ms rs known c =
    counted-layer lists ms rs known (out-Colour c) ∙ ap (λ x. if x then 1 else 0) (sym (same-roll (layer.Tuple (colours-of ms)) c))

-- choices
choices-of : (lists : List (List Colour)) (ms : List Meaning) (rs : List Reading) → AreChoices lists ms rs → AreComponents lists ms rs
choices-of [] [] [] known = tt
choices-of (colours ∷ lists) (m ∷ ms) (r ∷ rs) known = (record { size = known.0.agreed.size; counts = known.0.agreed.counts }, choices-of lists ms rs known.1)
choices-of [] [] (_ ∷ _) known = absurd known
choices-of [] (_ ∷ _) rs known = absurd known
choices-of (_ ∷ _) [] rs known = absurd known
choices-of (_ ∷ _) (_ ∷ _) [] known = absurd known

pub record AreSound (lists : List (List Colour)) (ms : List Meaning) (rs : List Reading) : Type 0 where
  pub sound : are_choices rs ≡ true
  pub defined : are_defined ms ≡ true
  pub size : tuple_size rs ≡ length (tuples lists)

choices-sound : (lists : List (List Colour)) (ms : List Meaning) (rs : List Reading) → AreChoices lists ms rs → AreSound lists ms rs
choices-sound [] [] [] known = record { sound = refl; defined = refl; size = refl }
choices-sound (colours ∷ lists) (m ∷ ms) (r ∷ rs) known =
    let rest = choices-sound lists ms rs known.1 in
    let some : 0 < r.size = (let h = known.0.some in omega (arith, h, known.0.agreed.size)) in
    record {
      sound = rw (known.0.agreed.sound, known.0.is_choice, test-of-lt 0 r.size some) rest.sound;
      defined = rw known.0.is_defined rest.defined;
      size = ap (λ s. s * tuple_size rs) known.0.agreed.size ∙ ap (λ n. length colours * n) rest.size ∙ sym (length-tuples colours lists);
    }
choices-sound [] [] (_ ∷ _) known = absurd known
choices-sound [] (_ ∷ _) rs known = absurd known
choices-sound (_ ∷ _) [] rs known = absurd known
choices-sound (_ ∷ _) (_ ∷ _) [] known = absurd known

zero-front : (n w : ℕ) → 0 * n + w ≡ w
zero-front n w = omega arith

pub tuple-nodes-agree : (ctx : Context) (b : Binding) (indices : List ℕ) (lists : List (List Colour)) → IsOnce (map tuple (tuples lists)) → length (tuples lists) ≤ most_colours
    → TupleNodesAgree ctx b indices lists
tuple-nodes-agree ctx b indices lists distinct limit = record {
  tuple_node = λ ms rs known.
      let list = map tuple (tuples lists) in
      let long : length list ≡ length (tuples lists) = length-map (tuples lists) tuple in
      let place = place-of lists ms rs known 0 in
      let here : slice_get list (tuple_place 0 rs) ≡ Some (tuple (colours-of ms)) =
      ap (slice_get list) (place.1 ∙ zero-front (length (tuples lists)) place.0) ∙ slice_get-map tuple (tuples lists) place.0 ∙ ap (option_map tuple) place.2 in
      let sound = are-colours lists ms rs known in
      let size = test-of-eq (tuple_size rs) (length (tuples lists)) (size-of lists ms rs known) in
      subst (λ n. IsOneColour list (meaning_part ctx b (written.Tuple ms)) (trees.colour n (tuple_place 0 rs) (are_colours rs && nat_eq (tuple_size rs) (length (tuples lists))))) long
      (one-at list distinct (subst (λ n. n ≤ most_colours) (sym long) limit) (tuple_place 0 rs) (meaning_part ctx b (written.Tuple ms)) (tuple (colours-of ms))
      (are_colours rs && nat_eq (tuple_size rs) (length (tuples lists))) here (rw sound.0 size) refl sound.1 (counted-tuple lists ms rs known));
  product_node = λ ms rs known fits.
      let sound = choices-sound lists ms rs known in
      record {
        sound = rw (sound.sound, test-of-eq (tuple_size rs) (length (tuples lists)) sound.size, test-of-le (length (tuples lists)) most_colours limit) (test-of-le (choices rs) most fits);
        defined = sym sound.defined;
        size = sym (length-map (tuples lists) tuple);
        counts = λ at c here.
            let image = slice_get-mapped tuple (tuples lists) at c here in
            products-agree lists ms rs at image.0 (choices-of lists ms rs known) image.1
            ∙ ap (tuple_count_layer ms) (sym (out-roll-Colour (layer.Tuple image.0)))
            ∙ ap (tuple_count ms) image.2;
      };
}
