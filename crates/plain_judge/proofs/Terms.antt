-- Laws of the terms of cells.
use Rattle.std.proofs.Common.{◌≡◌, ℕ, ◌+◌, ◌<◌, ◌≤◌, Bool, true, false, List, [], ◌∷◌, ◌++◌, ℤ, sym, ◌∙◌, ap, arith, take, length, get_or}
use Rattle.std.specs.Prelude.{unsigned_abs}
use Rattle.std.proofs.lemmas.Int.{ints}
use Rattle.std.proofs.lemmas.List.{take_more, map-append, take-map}
use Rattle.wide_sums.specs.Total.{Total, zero_total, with_term, joined, total_of}
use Rattle.wide_sums.proofs.Totals.{same_total, total_of_push, size_take-le, total_of-append, zero_joined}
use Rattle.wide_sums.specs.declared.rows.Cell.{Cell}
use Rattle.plain_judge.specs.Cells.{cell_term, cell_terms}

-- the terms of one cell more
cell_terms_more : (is_taken : Bool) (ys : List ℤ) (cells : List Cell) (i : ℕ) (d : Cell) → i < length cells
    → cell_terms is_taken ys (take (i + 1) cells) ≡ cell_terms is_taken ys (take i cells) ++ cell_term is_taken ys (get_or cells i d) ∷ []
cell_terms_more is_taken ys cells i d within =
    ap (cell_terms is_taken ys) (take_more cells i d within)
    ∙ map-append (cell_term is_taken ys) (take i cells) (get_or cells i d ∷ [])

with_term-joined : (a b : Total) (term : ℤ) → with_term (joined a b) term ≡ joined a (with_term b term)
with_term-joined a b term = same_total (with_term (joined a b) term) (joined a (with_term b term)) (omega (arith, ints)) (omega arith)

-- adding the term of the next cell
joined-cell_more : (start : Total) (is_taken : Bool) (ys : List ℤ) (cells : List Cell) (i : ℕ) (d : Cell) → i < length cells
    → with_term (joined start (total_of (cell_terms is_taken ys (take i cells)))) (cell_term is_taken ys (get_or cells i d))
    ≡ joined start (total_of (cell_terms is_taken ys (take (i + 1) cells)))
joined-cell_more start is_taken ys cells i d within =
    with_term-joined start (total_of (cell_terms is_taken ys (take i cells))) (cell_term is_taken ys (get_or cells i d))
    ∙ ap (joined start) (sym (total_of_push (cell_terms is_taken ys (take i cells)) (cell_term is_taken ys (get_or cells i d))))
    ∙ ap (λ terms. joined start (total_of terms)) (sym (cell_terms_more is_taken ys cells i d within))

pub joined_next : (start now new : Total) (is_taken : Bool) (ys : List ℤ) (cells : List Cell) (i : ℕ) (d : Cell) → i < length cells
    → now ≡ joined start (total_of (cell_terms is_taken ys (take i cells)))
    → new ≡ with_term now (cell_term is_taken ys (get_or cells i d))
    → new ≡ joined start (total_of (cell_terms is_taken ys (take (i + 1) cells)))
joined_next start now new is_taken ys cells i d within so_far added =
    added ∙ ap (λ t. with_term t (cell_term is_taken ys (get_or cells i d))) so_far ∙ joined-cell_more start is_taken ys cells i d within

-- a term that is too large for the first cells makes the whole too large
pub wide_on_the_way : (start now : Total) (is_taken : Bool) (ys : List ℤ) (cells : List Cell) (i : ℕ) (d : Cell) (bound : ℕ) → i < length cells
    → now ≡ joined start (total_of (cell_terms is_taken ys (take i cells)))
    → bound ≤ now.size + unsigned_abs (cell_term is_taken ys (get_or cells i d))
    → bound ≤ (joined start (total_of (cell_terms is_taken ys cells))).size
wide_on_the_way start now is_taken ys cells i d bound within so_far wide =
    let size : now.size ≡ start.size + (total_of (cell_terms is_taken ys (take i cells))).size = ap (λ (t : Total). t.size) so_far in
    let more : (total_of (cell_terms is_taken ys (take (i + 1) cells))).size ≡ (total_of (cell_terms is_taken ys (take i cells))).size + unsigned_abs (cell_term is_taken ys (get_or cells i d)) =
    ap (λ terms. (total_of terms).size) (cell_terms_more is_taken ys cells i d within)
    ∙ ap (λ (t : Total). t.size) (total_of_push (cell_terms is_taken ys (take i cells)) (cell_term is_taken ys (get_or cells i d))) in
    let part : (total_of (take (i + 1) (cell_terms is_taken ys cells))).size ≤ (total_of (cell_terms is_taken ys cells)).size = size_take-le (cell_terms is_taken ys cells) (i + 1) in
    let same : (total_of (take (i + 1) (cell_terms is_taken ys cells))).size ≡ (total_of (cell_terms is_taken ys (take (i + 1) cells))).size =
    ap (λ terms. (total_of terms).size) (take-map (cell_term is_taken ys) (i + 1) cells) in
    omega (arith, size, more, part, same)

-- the total of both rows
pub both_rows : (ys : List ℤ) (taken put : List Cell)
    → joined (joined zero_total (total_of (cell_terms false ys put))) (total_of (cell_terms true ys taken)) ≡ total_of (cell_terms false ys put ++ cell_terms true ys taken)
both_rows ys taken put = ap (λ t. joined t (total_of (cell_terms true ys taken))) (zero_joined (total_of (cell_terms false ys put))) ∙ sym (total_of-append (cell_terms false ys put) (cell_terms true ys taken))
