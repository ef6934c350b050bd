-- A row on the places that stay, cell by cell.
use Rattle.std.proofs.Common.{◌≡◌, ℕ, zero, suc, ◌+◌, ◌<◌, Bool, true, false, cond, inl, inr, List, [], ◌∷◌, ◌++◌, map, filter, length, get_or, take, arith, refl, ap, subst, sym, ◌∙◌, All, get_or-take, length-take}
use Rattle.std.proofs.lemmas.Bool.{cases_Bool}
use Rattle.std.proofs.lemmas.List.{take_more, map-append}
use Rattle.std.proofs.lemmas.List.Elements.{All-head, All-tail, All-nil, All-cons, filter-append}
use Rattle.wide_sums.specs.declared.rows.Cell.{Cell}
use Rattle.wide_sums.specs.Cells.{IsRow}
use Rattle.reductions.specs.Numbers.{rank}
use Rattle.reductions.specs.Reduced.{row_on}
use Rattle.reductions.proofs.Numbers.{rank_less}
use Rattle.reductions.proofs.Rows.{renumbered, row_on_more}

-- cells of lower places have lower numbers
lower_ranks : (stays : ℕ → Bool) (p : ℕ) (row : List Cell) → All (λ c. c.at < p) row → All (λ c. c.at < rank stays p) (row_on stays row)
lower_ranks stays p [] low = All-nil (λ c. c.at < rank stays p)
lower_ranks stays p (c ∷ cs) low =
    let rest = lower_ranks stays p cs (All-tail (λ d. d.at < p) c cs low) in
    elim (cases_Bool (stays c.at)) [
      | inl stay ↦
          subst (λ (row : List Cell). All (λ d. d.at < rank stays p) row) (sym (row_on_more true stays c cs stay))
          (All-cons (λ d. d.at < rank stays p) (renumbered stays c) (row_on stays cs) (rank_less c.at p stays (All-head (λ d. d.at < p) c cs low) stay) rest)
      | inr gone ↦ subst (λ (row : List Cell). All (λ d. d.at < rank stays p) row) (sym (row_on_more false stays c cs gone)) rest
    ]

pub ranked_below : (stays : ℕ → Bool) (row : List Cell) (k : ℕ) (d : Cell) → IsRow row → k < length row → All (λ c. c.at < rank stays (get_or row k d).at) (row_on stays (take k row))
ranked_below stays row k d is_row within =
    lower_ranks stays (get_or row k d).at (take k row) (λ i e inside.
    let long = length-take k row in
    let same = ap (λ (c : Cell). c.at) (get_or-take k row i e (omega arith)) in
    let up : (get_or row i e).at < (get_or row k e).at = is_row.rising i k e (omega arith) within in
    let one = ap (λ (c : Cell). c.at) (same_at row k d e within) in
    omega arith) where
      same_at : (row : List Cell) (k : ℕ) (d e : Cell) → k < length row → get_or row k d ≡ get_or row k e
      same_at [] k d e within = absurd (omega arith)
      same_at (c ∷ cs) zero d e within = refl
      same_at (c ∷ cs) (suc k) d e within = same_at cs k d e (omega arith)

-- one cell more
pub row_on_push : (stays : ℕ → Bool) (row : List Cell) (k : ℕ) (d : Cell) (b : Bool) → k < length row → stays (get_or row k d).at ≡ b → row_on stays (take (k + 1) row) ≡ row_on stays (take k row) ++ cond b (renumbered stays (get_or row k d) ∷ []) []
row_on_push stays row k d b within is =
    ap (row_on stays) (take_more row k d within)
    ∙ ap (map (renumbered stays)) (filter-append (λ c. stays c.at) (take k row) (get_or row k d ∷ []))
    ∙ map-append (renumbered stays) (filter (λ c. stays c.at) (take k row)) (filter (λ c. stays c.at) (get_or row k d ∷ []))
    ∙ ap (λ (cs : List Cell). row_on stays (take k row) ++ cs) (one stays (get_or row k d) b is) where
      one : (stays : ℕ → Bool) (c : Cell) (b : Bool) → stays c.at ≡ b → map (renumbered stays) (filter (λ c. stays c.at) (c ∷ [])) ≡ cond b (renumbered stays c ∷ []) []
      one stays c true is = ap (λ (x : Bool). map (renumbered stays) (cond x (c ∷ []) [])) is
      one stays c false is = ap (λ (x : Bool). map (renumbered stays) (cond x (c ∷ []) [])) is
