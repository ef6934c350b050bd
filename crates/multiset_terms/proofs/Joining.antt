-- Rows that grow at their ends within a list of cells.
use Rattle.std.proofs.Common.{◌≡◌, ◌≢◌, ℕ, ◌+◌, ◌-◌, ◌<◌, ◌≤◌, ◌^◌, inl, inr, List, [], ◌∷◌, ◌++◌, length, get_or, set, take, drop, refl, ap, sym, ◌∙◌, subst, arith}
use Rattle.std.specs.Prelude.{All, nat_eq}
use Rattle.std.proofs.Math.ListN.{get_or-append}
use Rattle.std.proofs.Math.Seq.{get_or-append_seam}
use Rattle.std.proofs.lemmas.Bool.{cases_eq}
use Rattle.std.proofs.lemmas.Bool.Decides.{nat_tests}
use Rattle.std.proofs.lemmas.List.{drop-set-lt, drop_more, get_or-drop, get_or-take, get_or_default, length-set, length-take, length_push, take_more, take_more_set}
use Rattle.std.proofs.lemmas.Grind.{take-set_at}
use Rattle.std.proofs.lemmas.List.Elements.{All-push}
use Rattle.std.proofs.lemmas.List.Quantifiers.{all_pairs_push}
use Rattle.std.proofs.lemmas.List.Sums.{sum_by_push}
use Rattle.wide_sums.specs.declared.rows.Cell.{Cell}
use Rattle.wide_sums.specs.Cells.{IsRising, IsRow, amount, count_at}
use Rattle.wide_sums.proofs.Amounts.{count_at-same, count_at-other}
use Rattle.multiset_terms.specs.Rows.{AreBelow, AreInOrder, IsTakenIn, no_cell, total}

pub row-push : (front : List Cell) (c : Cell) → IsRow front → AreBelow c.at front → 0 < c.count → c.count < 2 ^ 63 → IsRow (front ++ c ∷ [])
row-push front c row below some fits = record {
  rising = all_pairs_push (λ a b. a.at < b.at) front c row.rising below;
  counted = All-push (λ d. (0 < d.count) × (d.count < 2 ^ 63)) front c row.counted (some, fits);
}

row-front : (front : List Cell) (c : Cell) → IsRow (front ++ c ∷ []) → IsRow front
row-front front c row = record {
  rising = λ i j d before within.
      let a = ap (λ e. e.at) (get_or-append front (c ∷ []) d i (omega arith)) in
      let b = ap (λ e. e.at) (get_or-append front (c ∷ []) d j within) in
      let up : (get_or (front ++ c ∷ []) i d).at < (get_or (front ++ c ∷ []) j d).at = row.rising i j d before (omega (arith, length_push front c, within)) in
      omega (arith, a, b, up);
  counted = λ k d within. subst (λ e. (0 < e.count) × (e.count < 2 ^ 63)) (get_or-append front (c ∷ []) d k within) (row.counted k d (omega (arith, length_push front c, within)));
}

last-above : (front : List Cell) (c : Cell) → IsRow (front ++ c ∷ []) → AreBelow c.at front
last-above front c row = λ k d within.
    let a = ap (λ e. e.at) (get_or-append front (c ∷ []) d k within) in
    let b = ap (λ e. e.at) (get_or-append_seam front c [] d) in
    let up : (get_or (front ++ c ∷ []) k d).at < (get_or (front ++ c ∷ []) (length front) d).at = row.rising k (length front) d within (omega (arith, length_push front c)) in
    omega (arith, a, b, up)

last-counted : (front : List Cell) (c : Cell) → IsRow (front ++ c ∷ []) → 0 < c.count
last-counted front c row =
    let known = row.counted (length front) c (omega (arith, length_push front c)) in
    let b = ap (λ e. e.count) (get_or-append_seam front c [] c) in
    omega (arith, known.0, b)

-- two cells at one place as one
abbrev pub both : Cell → Cell → Cell
both a c = record { at = a.at; count = a.count + c.count }

both-counts : (p : ℕ) (a c : Cell) → a.at ≡ c.at → count_at p (both a c) ≡ count_at p a + count_at p c
both-counts p a c same = elim (cases_eq a.at p) [
  | inl here ↦
      let x = count_at-same p (both a c) here in
      let y = count_at-same p a here in
      let z = count_at-same p c (sym same ∙ here) in
      omega (arith, x, y, z)
  | inr away ↦
      let x = count_at-other p (both a c) away in
      let y = count_at-other p a away in
      let z = count_at-other p c (λ there. away (same ∙ there)) in
      omega (arith, x, y, z)
]

pub joins : (xs : List Cell) (kept read : ℕ) → 0 < kept → kept ≤ read → read < length xs → IsRow (take kept xs)
    → ((p : ℕ) → amount p (take kept xs) + count_at p (get_or xs read no_cell) < 2 ^ 63) → (get_or xs (kept - 1) no_cell).at ≡ (get_or xs read no_cell).at
    → IsTakenIn xs kept read (set xs (kept - 1) (both (get_or xs (kept - 1) no_cell) (get_or xs read no_cell))) kept
joins xs kept read some order within row fits same =
    let k = kept - 1 in
    let last = get_or xs k no_cell in
    let cell = get_or xs read no_cell in
    let one = both last cell in
    let is : kept ≡ k + 1 = omega arith in
    let inside : k < length xs = omega arith in
    let was : take kept xs ≡ take k xs ++ last ∷ [] = ap (λ n. take n xs) is ∙ take_more xs k no_cell inside in
    let will : take kept (set xs k one) ≡ take k xs ++ one ∷ [] = take-set_at xs k kept one is inside in
    let known = subst IsRow was row in
    let below = last-above (take k xs) last known in
    let before : (p : ℕ) → amount p (take kept xs) ≡ amount p (take k xs) + count_at p last = λ p. ap (amount p) was ∙ sum_by_push (count_at p) (take k xs) last in
    let after : (p : ℕ) → amount p (take kept (set xs k one)) ≡ amount p (take k xs) + count_at p one = λ p. ap (amount p) will ∙ sum_by_push (count_at p) (take k xs) one in
    record {
      many = length-set xs k one;
      order = omega arith;
      rest = drop-set-lt (read + 1) xs k one (omega arith);
      front = subst IsRow (sym will) (row-push (take k xs) one (row-front (take k xs) last known) below
          (let some = last-counted (take k xs) last known in omega (arith, some))
          (let room = fits last.at in let whole = before last.at in let own = count_at-same last.at last refl in let other = count_at-same last.at cell (sym same) in omega (arith, room, whole, own, other)));
      elements =
          let x = ap total was ∙ sum_by_push (λ c. c.count) (take k xs) last in
          let y = ap total will ∙ sum_by_push (λ c. c.count) (take k xs) one in
          omega (arith, x, y);
      counts = λ p. let x = before p in let y = after p in let z = both-counts p last cell same in omega (arith, x, y, z);
      later = subst (All (λ c. c.at ≤ cell.at)) (sym will) (All-push (λ c. c.at ≤ cell.at) (take k xs) one (λ i d w. let b = below i d w in omega (arith, b, same)) (omega (arith, same)));
      below = λ bound old less. subst (AreBelow bound) (sym will) (All-push (λ c. c.at < bound) (take k xs) one (λ i d w. let b = below i d w in omega (arith, b, same, less)) (omega (arith, same, less)));
    }

-- a row whose last cell is elsewhere and not behind is below a place
strictly : (xs : List Cell) (kept at : ℕ) → kept ≤ length xs → IsRow (take kept xs) → All (λ c. c.at ≤ at) (take kept xs) → (0 < kept → (get_or xs (kept - 1) no_cell).at ≢ at) → AreBelow at (take kept xs)
strictly xs kept at long row later away = λ k d within.
    let many = length-take kept xs in
    let last : kept - 1 < length (take kept xs) = omega (arith, many, within) in
    let here = ap (λ e. e.at) (get_or-take kept xs (kept - 1) d (omega (arith, many, within))) in
    let same = ap (λ e. e.at) (get_or_default xs (kept - 1) d no_cell (omega (arith, many, within))) in
    let up = later (kept - 1) d last in
    let other = away (omega (arith, many, within)) in
    elim (cases_eq k (kept - 1)) [
      | inl is ↦
          let moved = ap (λ n. (get_or (take kept xs) n d).at) is in
          omega (arith, moved, here, same, up, other)
      | inr before ↦
          let less : (get_or (take kept xs) k d).at < (get_or (take kept xs) (kept - 1) d).at = row.rising k (kept - 1) d (omega (arith, many, within)) last in
          omega (arith, less, up)
    ]

pub grows : (xs : List Cell) (kept read : ℕ) → kept ≤ read → read < length xs → IsRow (take kept xs) → All (λ c. c.at ≤ (get_or xs read no_cell).at) (take kept xs)
    → ((p : ℕ) → amount p (take kept xs) + count_at p (get_or xs read no_cell) < 2 ^ 63) → 0 < (get_or xs read no_cell).count
    → (0 < kept → (get_or xs (kept - 1) no_cell).at ≢ (get_or xs read no_cell).at)
    → IsTakenIn xs kept read (set xs kept (get_or xs read no_cell)) (kept + 1)
grows xs kept read order within row later fits some away =
    let cell = get_or xs read no_cell in
    let will : take (kept + 1) (set xs kept cell) ≡ take kept xs ++ cell ∷ [] = take_more_set xs kept cell (omega arith) in
    record {
      many = length-set xs kept cell;
      order = omega arith;
      rest = drop-set-lt (read + 1) xs kept cell (omega arith);
      front = subst IsRow (sym will) (row-push (take kept xs) cell row (strictly xs kept cell.at (omega arith) row later away) some
          (let room = fits cell.at in let own = count_at-same cell.at cell refl in omega (arith, room, own)));
      counts = λ p. ap (amount p) will ∙ sum_by_push (count_at p) (take kept xs) cell;
      elements = ap total will ∙ sum_by_push (λ c. c.count) (take kept xs) cell;
      later = subst (All (λ c. c.at ≤ cell.at)) (sym will) (All-push (λ c. c.at ≤ cell.at) (take kept xs) cell later (omega arith));
      below = λ bound old less. subst (AreBelow bound) (sym will) (All-push (λ c. c.at < bound) (take kept xs) cell old less);
    }

pub same-behind : (xs ys : List Cell) (n : ℕ) (d : Cell) → drop n xs ≡ drop n ys → get_or xs n d ≡ get_or ys n d
same-behind xs ys n d same =
    let here : n + 0 ≡ n = omega arith in
    ap (λ k. get_or xs k d) (sym here) ∙ sym (get_or-drop n xs 0 d) ∙ ap (λ zs. get_or zs 0 d) same ∙ get_or-drop n ys 0 d ∙ ap (λ k. get_or ys k d) here

abbrev tail : List Cell → List Cell
tail [] = []
tail (c ∷ cs) = cs

pub rest-behind : (xs ys : List Cell) (n : ℕ) → n < length xs → n < length ys → drop n xs ≡ drop n ys → drop (n + 1) xs ≡ drop (n + 1) ys
rest-behind xs ys n inside within same = ap tail (sym (drop_more xs n no_cell inside) ∙ same ∙ drop_more ys n no_cell within)

-- what was read from a list
pub as-read : (xs : List Cell) (i : ℕ) (c : Cell) → c ≡ get_or xs i c → i < length xs → c ≡ get_or xs i no_cell
as-read xs i c is within = is ∙ get_or_default xs i c no_cell within

-- the cells in front of a cell are below it
pub front-below : (cells : List Cell) (i : ℕ) (d : Cell) → IsRising cells → i < length cells → AreBelow (get_or cells i d).at (take i cells)
front-below cells i d rising within = λ k e inside.
    let short : k < i = omega (arith, length-take i cells) in
    let same = get_or-take i cells k e short in
    let first : (get_or cells k e).at < (get_or cells i e).at = rising k i e short within in
    let other = get_or_default cells i e d within in
    rw same (rw (sym other) first)
