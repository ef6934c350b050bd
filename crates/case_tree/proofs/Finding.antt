-- What has a number among that which items add.
use Rattle.std.proofs.Common.{◌≡◌, ℕ, zero, suc, ◌<◌, ◌≤◌, ◌+◌, List, [], ◌∷◌, ◌++◌, drop, reverse, length, flat_map, slice_index_or, refl, sym, ◌∙◌, ap, arith}
use Rattle.std.specs.Prelude.{◌-◌, Some}
use Rattle.std.proofs.lemmas.List.{append-nil, append_assoc, drop_more, reverse-append, reverse-reverse}
use Rattle.cert_model.specs.Facts.{element}
use Rattle.cert_model.specs.Trees.{numbered}
use Rattle.case_tree.specs.Agendas.{Added, added_by}
use Rattle.case_tree.specs.States.{choices_in, choices_of, hypotheses_in, hypotheses_of}

element_within : {X : Type 0} (xs ys : List X) (n : ℕ) (d : X) → n < length xs → element (xs ++ ys) n ≡ Some (slice_index_or xs n d)
element_within [] ys n d low = absurd (omega (arith, low))
element_within (x ∷ xs) ys zero d low = refl
element_within (x ∷ xs) ys (suc n) d low = element_within xs ys n d (omega (arith, low))

element_behind : {X : Type 0} (xs ys : List X) (n : ℕ) → length xs ≤ n → element (xs ++ ys) n ≡ element ys (n - length xs)
element_behind [] ys n low = ap (element ys) (let same : n ≡ n - 0 = omega arith in same)
element_behind (x ∷ xs) ys zero low = absurd (omega (arith, low))
element_behind (x ∷ xs) ys (suc n) low = element_behind xs ys n (omega (arith, low)) ∙ ap (element ys) (let same : n - length xs ≡ suc n - length (x ∷ xs) = omega arith in same)

numbered_from : {X : Type 0} (xs : List X) (n : ℕ) → 0 < n → numbered xs n ≡ element xs (n - 1)
numbered_from xs zero some = absurd (omega (arith, some))
numbered_from xs (suc n) some = ap (element xs) (let same : n ≡ suc n - 1 = omega arith in same)

-- `f` says what an item adds
module _ {X : Type 0} (f : ℕ → List X) where
  next : (entered : List ℕ) (i d : ℕ) → i < length entered → flat_map f (drop i entered) ≡ f (slice_index_or entered i d) ++ flat_map f (drop (i + 1) entered)
  next entered i d low = ap (flat_map f) (drop_more entered i d low)

  pub found_here : (entered : List ℕ) (i d left at : ℕ) (e : X) → i < length entered → left < length (f (slice_index_or entered i d))
      → element (flat_map f (drop i entered)) left ≡ element (flat_map f entered) at → element (flat_map f entered) at ≡ Some (slice_index_or (f (slice_index_or entered i d)) left e)
  found_here entered i d left at e low within rest =
      sym rest ∙ ap (λ xs. element xs left) (next entered i d low) ∙ element_within (f (slice_index_or entered i d)) (flat_map f (drop (i + 1) entered)) left e within

  pub found_later : (entered : List ℕ) (i d left at n : ℕ) → i < length entered → n ≡ length (f (slice_index_or entered i d)) → n ≤ left
      → element (flat_map f (drop i entered)) left ≡ element (flat_map f entered) at → element (flat_map f (drop (i + 1) entered)) (left - n) ≡ element (flat_map f entered) at
  found_later entered i d left at n low counted behind rest =
      ap (λ k. element (flat_map f (drop (i + 1) entered)) (left - k)) counted
      ∙ sym (element_behind (f (slice_index_or entered i d)) (flat_map f (drop (i + 1) entered)) left (omega (arith, counted, behind)))
      ∙ sym (ap (λ xs. element xs left) (next entered i d low)) ∙ rest

  more : (entered : List ℕ) (item : ℕ) → flat_map f (entered ++ item ∷ []) ≡ flat_map f entered ++ f item
  more [] item = append-nil (f item)
  more (x ∷ entered) item = ap (λ xs. f x ++ xs) (more entered item) ∙ sym (append_assoc (f x) (flat_map f entered) (f item))

  step : (xs : List X) (path : List ℕ) (item : ℕ) → xs ≡ flat_map f (reverse path) → xs ++ f item ≡ flat_map f (reverse (item ∷ path))
  step xs path item is = ap (λ ys. ys ++ f item) is ∙ sym (more (reverse path) item) ∙ sym (ap (flat_map f) (reverse-append (item ∷ []) path))

-- the last item that was entered comes first in a path
choices_in_order : (items : List Added) (path : List ℕ) → choices_of items path ≡ choices_in items (reverse path)
choices_in_order items [] = refl
choices_in_order items (item ∷ path) = step (λ k. (added_by items k).choices) (choices_of items path) path item (choices_in_order items path)

hypotheses_in_order : (items : List Added) (path : List ℕ) → hypotheses_of items path ≡ hypotheses_in items (reverse path)
hypotheses_in_order items [] = refl
hypotheses_in_order items (item ∷ path) = step (λ k. (added_by items k).hypotheses) (hypotheses_of items path) path item (hypotheses_in_order items path)

pub choice_found : (items : List Added) (entered : List ℕ) (n : ℕ) → 0 < n → numbered (choices_of items (reverse entered)) n ≡ element (choices_in items entered) (n - 1)
choice_found items entered n some =
    ap (λ xs. numbered xs n) (choices_in_order items (reverse entered) ∙ ap (choices_in items) (reverse-reverse entered)) ∙ numbered_from (choices_in items entered) n some

pub hypothesis_found : (items : List Added) (entered : List ℕ) (n : ℕ) → 0 < n → numbered (hypotheses_of items (reverse entered)) n ≡ element (hypotheses_in items entered) (n - 1)
hypothesis_found items entered n some =
    ap (λ xs. numbered xs n) (hypotheses_in_order items (reverse entered) ∙ ap (hypotheses_in items) (reverse-reverse entered)) ∙ numbered_from (hypotheses_in items entered) n some
