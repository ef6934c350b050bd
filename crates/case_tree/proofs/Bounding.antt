-- Naming bounds one after the other.
use Rattle.std.proofs.Common.{◌≡◌, ℕ, ◌+◌, ◌<◌, ◌≤◌, List, [], ◌∷◌, ◌++◌, take, length, slice_index_or, sym, ◌∙◌, ap, length-append}
use Rattle.std.proofs.lemmas.List.{append-nil, append_assoc, length-take-le, length-map, map-append, take_more}
use Rattle.wide_sums.specs.declared.rows.Cell.{Cell}
use Rattle.path_bounds.specs.Held.{Held, with_lower, with_upper}
use Rattle.case_tree.specs.Agendas.{bounds_of}
use Rattle.case_tree.specs.Bounds.{with_lowers, with_uppers}

bounds_more : (cells : List Cell) (i : ℕ) (d : Cell) → i < length cells
    → bounds_of (take (i + 1) cells) ≡ bounds_of (take i cells) ++ ((slice_index_or cells i d).at, (slice_index_or cells i d).count) ∷ []
bounds_more cells i d low = ap bounds_of (take_more cells i d low) ∙ map-append (λ c. (c.at, c.count)) (take i cells) (slice_index_or cells i d ∷ [])

step : (named : List (ℕ × ℕ)) (cells : List Cell) (i : ℕ) (d : Cell) → i < length cells
    → (named ++ bounds_of (take i cells)) ++ ((slice_index_or cells i d).at, (slice_index_or cells i d).count) ∷ [] ≡ named ++ bounds_of (take (i + 1) cells)
step named cells i d low = append_assoc named (bounds_of (take i cells)) _ ∙ ap (λ bs. named ++ bs) (sym (bounds_more cells i d low))

pub lowers_begun : (held : Held) → held ≡ with_lowers [] held
lowers_begun held = ap (λ bs. record held { lowers = bs }) (sym (append-nil held.lowers))

pub uppers_begun : (held : Held) → held ≡ with_uppers [] held
uppers_begun held = ap (λ bs. record held { uppers = bs }) (sym (append-nil held.uppers))

pub lowers_more : (held : Held) (cells : List Cell) (i : ℕ) (d : Cell) → i < length cells
    → with_lower (slice_index_or cells i d).at (slice_index_or cells i d).count (with_lowers (bounds_of (take i cells)) held) ≡ with_lowers (bounds_of (take (i + 1) cells)) held
lowers_more held cells i d low = ap (λ bs. record held { lowers = bs }) (step held.lowers cells i d low)

pub uppers_more : (held : Held) (cells : List Cell) (i : ℕ) (d : Cell) → i < length cells
    → with_upper (slice_index_or cells i d).at (slice_index_or cells i d).count (with_uppers (bounds_of (take i cells)) held) ≡ with_uppers (bounds_of (take (i + 1) cells)) held
uppers_more held cells i d low = ap (λ bs. record held { uppers = bs }) (step held.uppers cells i d low)

pub taken_length : (named : List (ℕ × ℕ)) (cells : List Cell) (i : ℕ) → i ≤ length cells → length (named ++ bounds_of (take i cells)) ≡ length named + i
taken_length named cells i low =
    length-append named (bounds_of (take i cells)) ∙ ap (λ n. length named + n) (length-map (take i cells) (λ c. (c.at, c.count)) ∙ length-take-le i cells low)
