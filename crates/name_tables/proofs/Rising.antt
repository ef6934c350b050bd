-- Words in strictly rising order, each behind a reference: they are distinct, and a search that ends between two rows finds no row.
use Rattle.std.proofs.Common.{◌≡◌, ℕ, ◌<◌, ◌+◌, false, IsTrue, List, [], ◌∷◌, map, length, get_or, Some, None, slice_get, bytes_eq, All, Bor, Ordering, Less, Equal, Greater, nat_cmp, is_eq, is_lt, refl, sym, ap, ap₂, ⊎_elim, ◌∙◌, true≢false, arith}
use Rattle.std.specs.Cmp.{first_so, second_so}
use Rattle.std.specs.Cmp.Lexicographic.{slice_cmp}
use Rattle.std.specs.List.{AllByRecursion, IsDistinct}
use Rattle.std.specs.List.Sorted.{IsStrictlySortedBy, IsSortedBy, IsNonDecreasingBy, IsPartitionPoint}
use Rattle.std.specs.Ordering.{ordering_index, ordering_reverse}
use Rattle.std.proofs.lemmas.Bool.{cases_lt}
use Rattle.std.proofs.lemmas.Cmp.{nat_list_cmp_total, nat_list_eq_equiv}
use Rattle.std.proofs.lemmas.List.{get_or-map, length-map}
use Rattle.std.proofs.lemmas.List.Folds.{list_any_none}
use Rattle.std.proofs.lemmas.List.Sorted.{searchable_from_sorted}
use Rattle.std.proofs.lemmas.Map.Keys.{Less-from_sorted, IsDistinct-from_apart}
use Rattle.std.proofs.lemmas.Map.Text.{is_eq-slice_cmp}
use Rattle.std.proofs.lemmas.Option.{slice_get_within, get_or_from_slice_get, slice_get-get_or}
use Rattle.std.proofs.lemmas.Slice.Eq.{bytes_eq-Decides}
use Rattle.name_tables.proofs.Places.{place_of_key, position-map, position_none}
use Rattle.name_tables.specs.Numbering.{number_in}
use Rattle.name_tables.specs.Tables.{are_rising}

abbrev order : List ℕ → List ℕ → Ordering
order = slice_cmp nat_cmp

abbrev text : Bor (List ℕ) → List ℕ
text word = word.now

abbrev pub rows : List (Bor (List ℕ)) → List (List ℕ)
rows words = map text words

less : (o : Ordering) → IsTrue (is_lt o) → o ≡ Less
less Less _ = refl
less Equal h = absurd (true≢false (sym h))
less Greater h = absurd (true≢false (sym h))

-- a word below the first row is below each row
above : (word row : List ℕ) (rest : List (List ℕ)) → order word row ≡ Less → IsTrue (are_rising (row ∷ rest))
    → AllByRecursion (λ r. order word r ≡ Less) (row ∷ rest)
above word row [] below h = (below, tt)
above word row (next ∷ rest) below h =
    (below, above word next rest (nat_list_cmp_total.trans word row next below (less _ (first_so _ _ h))) (second_so _ _ h))

rises : (texts : List (List ℕ)) → IsTrue (are_rising texts) → IsStrictlySortedBy order texts
unfolding IsStrictlySortedBy
rises [] h = tt
rises (row ∷ []) h = (tt, tt)
rises (row ∷ next ∷ rest) h =
    (above row next rest (less _ (first_so _ _ h)) (second_so _ _ h), rises (next ∷ rest) (second_so _ _ h))

less_at : (words : List (Bor (List ℕ))) (i j : ℕ) (d : Bor (List ℕ)) → IsTrue (are_rising (rows words)) → i < j → j < length words
    → order (get_or words i d).now (get_or words j d).now ≡ Less
less_at words i j d h before within =
    ap₂ order (sym (get_or-map text words i d d.now (omega arith))) (sym (get_or-map text words j d d.now within))
    ∙ Less-from_sorted order (rows words) i j d.now (rises (rows words) h) before (omega (arith, within, length-map words text))

sorted : (words : List (Bor (List ℕ))) → IsTrue (are_rising (rows words)) → IsSortedBy (λ x y. is_lt (order x.now y.now)) words
sorted words h k d _ before =
    ap is_lt (nat_list_cmp_total.antisymm (get_or words (k + 1) d).now (get_or words k d).now ∙ ap ordering_reverse (less_at words k (k + 1) d h (omega arith) before))

distinct : (words : List (Bor (List ℕ))) → IsTrue (are_rising (rows words)) → IsDistinct (λ x y. bytes_eq x.now y.now) words
distinct words h =
    IsDistinct-from_apart _ words (λ i j d before within. sym (is_eq-slice_cmp (get_or words i d).now (get_or words j d).now) ∙ ap is_eq (less_at words i j d h before within))

-- the word of a row has the place of the row
pub place_of_row : (words : List (Bor (List ℕ))) (at : ℕ) (d : Bor (List ℕ)) → IsTrue (are_rising (rows words)) → at < length words
    → number_in (rows words) (get_or words at d).now ≡ Some at
place_of_row words at d h within = position-map text (bytes_eq (get_or words at d).now) words ∙ place_of_key text words at d (distinct words h) within

-- what a search by order answers: a row that holds the word, or a place with lower rows before it and higher rows from it on
abbrev pub Holds : List (Bor (List ℕ)) → List ℕ → ℕ → Type 0
Holds words name at = (d : Bor (List ℕ)) → order (get_or words at d).now name ≡ Equal

abbrev pub Parts : List (Bor (List ℕ)) → List ℕ → ℕ → Type 0
Parts words name at =
    IsNonDecreasingBy (λ word. ordering_index (order word.now name)) words
    → IsPartitionPoint (λ word. order word.now name ≡ Less) (λ word. order word.now name ≡ Greater) words at

word_held : (words : List (Bor (List ℕ))) (at : ℕ) (d : Bor (List ℕ)) (name : List ℕ) → Holds words name at → (get_or words at d).now ≡ name
word_held words at d name held =
    let word = (get_or words at d).now in
    (bytes_eq-Decides word name).0 (sym (is_eq-slice_cmp word name) ∙ ap is_eq (held d))

pub row_held : (words : List (Bor (List ℕ))) (at : ℕ) (name : List ℕ) → at < length words → Holds words name at
    → slice_get (rows words) at ≡ Some name
row_held words at name within held =
    let d : Bor (List ℕ) = record { ref_ptr = (0, 0); now = name } in
    slice_get-get_or (rows words) at name (omega (arith, within, length-map words text))
    ∙ ap Some (get_or-map text words at d name within ∙ word_held words at d name held)

pub place_held : (words : List (Bor (List ℕ))) (at : ℕ) (name : List ℕ) → IsTrue (are_rising (rows words)) → at < length words
    → Holds words name at → number_in (rows words) name ≡ Some at
place_held words at name h within held =
    let d : Bor (List ℕ) = record { ref_ptr = (0, 0); now = name } in
    ap (number_in (rows words)) (sym (word_held words at d name held)) ∙ place_of_row words at d h within

nowhere : (words : List (Bor (List ℕ))) (name : List ℕ) (at : ℕ) → IsTrue (are_rising (rows words)) → Parts words name at
    → All (λ row. bytes_eq name row ≡ false) (rows words)
nowhere words name at h parts k row within =
    let inside : k < length words = omega (arith, within, length-map words text) in
    let d : Bor (List ℕ) = record { ref_ptr = (0, 0); now = row } in
    let word = (get_or words k d).now in
    let split = parts (searchable_from_sorted nat_list_cmp_total text words name (sorted words h)) in
    ap (bytes_eq name) (get_or-map text words k d row inside)
    ∙ nat_list_eq_equiv.symm name word
    ∙ sym (is_eq-slice_cmp word name)
    ∙ ⊎_elim (λ before. ap is_eq (split.0 k d (omega arith) before)) (λ after. ap is_eq (split.1 k d after inside)) (cases_lt k at)

pub no_place : (words : List (Bor (List ℕ))) (name : List ℕ) (at : ℕ) → IsTrue (are_rising (rows words)) → Parts words name at
    → number_in (rows words) name ≡ None
no_place words name at h parts =
    position_none (bytes_eq name) (rows words) (list_any_none (bytes_eq name) (rows words) (nowhere words name at h parts))

pub no_row : (words : List (Bor (List ℕ))) (name : List ℕ) (at : ℕ) → IsTrue (are_rising (rows words)) → Parts words name at
    → (tag : ℕ) → slice_get (rows words) tag ≡ Some name → ⊥
no_row words name at h parts tag there =
    true≢false (sym (nat_list_eq_equiv.refl name) ∙ ap (bytes_eq name) (sym (get_or_from_slice_get (rows words) tag name name there)) ∙ nowhere words name at h parts tag name (slice_get_within (rows words) tag name there))
