-- Two rows that are read side by side.
use Rattle.std.proofs.Common.{◌≡◌, ◌≢◌, ℕ, ◌+◌, ◌-◌, ◌<◌, ◌≤◌, inl, inr, List, [], ◌∷◌, ◌++◌, length, get_or, take, drop, refl, ap, sym, ◌∙◌, subst, arith}
use Rattle.std.specs.Prelude.{All}
use Rattle.std.proofs.lemmas.Bool.{cases_eq, cases_lt}
use Rattle.std.proofs.lemmas.List.{get_or-take, get_or_default, length-take, take_all, take_more}
use Rattle.std.proofs.lemmas.List.Elements.{All-push}
use Rattle.std.proofs.lemmas.List.Sums.{sum_by_push}
use Rattle.wide_sums.specs.declared.rows.Cell.{Cell}
use Rattle.wide_sums.specs.Cells.{IsRow, amount, count_at}
use Rattle.wide_sums.proofs.Amounts.{amount-at, amount-none, count_at-same, count_at-other}
use Rattle.multiset_terms.specs.Rows.{AreBelow, AreRead, IsShort, IsTakenOff, IsWithin, no_cell}

at-default : (xs : List Cell) (i : ℕ) (d e : Cell) → i < length xs → (get_or xs i d).at ≡ (get_or xs i e).at
at-default xs i d e within = ap (λ c. c.at) (get_or_default xs i d e within)

grown : (xs : List Cell) (i q : ℕ) → i < length xs → amount q (take (i + 1) xs) ≡ amount q (take i xs) + count_at q (get_or xs i no_cell)
grown xs i q within = ap (amount q) (take_more xs i no_cell within) ∙ sum_by_push (count_at q) (take i xs) (get_or xs i no_cell)

below-grown : (xs : List Cell) (i bound : ℕ) → i < length xs → AreBelow bound (take i xs) → (get_or xs i no_cell).at < bound → AreBelow bound (take (i + 1) xs)
below-grown xs i bound within below less = subst (AreBelow bound) (sym (take_more xs i no_cell within)) (All-push (λ c. c.at < bound) (take i xs) (get_or xs i no_cell) below less)

zero-cell : (q at : ℕ) → count_at q (record { at = at; count = 0 }) ≡ 0
zero-cell q at = elim (cases_eq at q) [ inl here ↦ count_at-same q (record { at = at; count = 0 }) here | inr away ↦ count_at-other q (record { at = at; count = 0 }) away ]

-- the part has nothing at the place of the next cell
pub past : (whole part : List Cell) (at taken : ℕ) → IsRow whole → IsRow part → at < length whole → AreRead whole part at taken
    → (taken < length part → (get_or whole at no_cell).at < (get_or part taken no_cell).at) → IsTakenOff whole part at taken 0 taken
past whole part at taken w r within read far = record {
  read = record {
    order = read.order;
    inside = λ q. let known = read.inside q in let more = grown whole at q within in omega (arith, known, more);
    ahead = λ j d low short. below-grown whole at (get_or part j d).at within (read.ahead j d low short)
        (let first = far (omega (arith, low, short)) in
        let same = at-default part j d no_cell short in
        elim (cases_eq taken j) [
          | inl is ↦ let moved = ap (λ n. (get_or part n no_cell).at) is in omega (arith, first, same, moved)
          | inr other ↦ let up : (get_or part taken no_cell).at < (get_or part j no_cell).at = r.rising taken j no_cell (omega arith) short in omega (arith, first, same, up)
        ]);
    behind = λ j d low short. read.behind j d (omega arith) short;
  };
  enough = omega arith;
  counts = λ q. let none = zero-cell q (get_or whole at no_cell).at in omega (arith, none);
}

-- the part has a cell there that is within the next cell
pub met : (whole part : List Cell) (at taken : ℕ) → IsRow whole → IsRow part → at < length whole → AreRead whole part at taken → taken < length part
    → (get_or part taken no_cell).at ≡ (get_or whole at no_cell).at → (get_or part taken no_cell).count ≤ (get_or whole at no_cell).count
    → IsTakenOff whole part at taken (get_or part taken no_cell).count (taken + 1)
met whole part at taken w r within read some same fits =
    let cell = get_or whole at no_cell in
    let other = get_or part taken no_cell in
    record {
      read = record {
        order = omega arith;
        inside = λ q.
            let known = read.inside q in
            let more = grown whole at q within in
            let less = grown part taken q some in
            elim (cases_eq cell.at q) [
              | inl here ↦
                  let a = count_at-same q cell here in
                  let b = count_at-same q other (same ∙ here) in
                  omega (arith, known, more, less, a, b, fits)
              | inr away ↦
                  let a = count_at-other q cell away in
                  let b = count_at-other q other (λ there. away (sym same ∙ there)) in
                  omega (arith, known, more, less, a, b)
            ];
        ahead = λ j d low short. below-grown whole at (get_or part j d).at within (read.ahead j d (omega arith) short)
            (let up : other.at < (get_or part j no_cell).at = r.rising taken j no_cell (omega arith) short in let is = at-default part j d no_cell short in omega (arith, up, is, same));
        behind = λ j d low short. below-grown part taken (get_or whole j d).at some (read.behind j d (omega arith) short)
            (let up : cell.at < (get_or whole j no_cell).at = w.rising at j no_cell (omega arith) short in let is = at-default whole j d no_cell short in omega (arith, up, is, same));
      };
      enough = fits;
      counts = λ q. grown part taken q some ∙ ap (λ x. amount q (take taken part) + x) (ap (λ n. count_at q (record { at = n; count = other.count })) same);
    }

-- the part has a place in front of all that come
pub short-before : (whole part : List Cell) (at taken : ℕ) → IsRow whole → IsRow part → at ≤ length whole → AreRead whole part at taken → taken < length part
    → (at < length whole → (get_or part taken no_cell).at < (get_or whole at no_cell).at) → IsShort part whole
short-before whole part at taken w r within read some less =
    let other = get_or part taken no_cell in
    let own = amount-at part taken no_cell r.rising some in
    let counted = (r.counted taken no_cell some).0 in
    let none : amount other.at whole ≡ 0 = amount-none other.at whole (λ j d inside.
    elim (cases_lt j at) [
      | inl low ↦
          let here = ap (λ c. c.at) (get_or-take at whole j d low) in
          let b : (get_or (take at whole) j d).at < other.at = read.ahead taken no_cell (omega arith) some j d (let long = length-take at whole in omega (arith, long, low, within)) in
          omega (arith, here, b)
      | inr far ↦
          let first = less (omega (arith, far, inside)) in
          let is = at-default whole j d no_cell inside in
          elim (cases_eq at j) [
            | inl same ↦ let moved = ap (λ n. (get_or whole n no_cell).at) same in omega (arith, first, is, moved)
            | inr later ↦ let up : (get_or whole at no_cell).at < (get_or whole j no_cell).at = w.rising at j no_cell (omega arith) inside in omega (arith, first, is, up)
          ]
    ]) in
    (other.at, omega (arith, own, none, counted))

-- the part has more at the place of the next cell
pub short-there : (whole part : List Cell) (at taken : ℕ) → IsRow whole → IsRow part → at < length whole → taken < length part
    → (get_or part taken no_cell).at ≡ (get_or whole at no_cell).at → (get_or whole at no_cell).count < (get_or part taken no_cell).count → IsShort part whole
short-there whole part at taken w r within some same more =
    let own = amount-at part taken no_cell r.rising some in
    let other = amount-at whole at no_cell w.rising within in
    let moved = ap (λ p. amount p whole) same in
    ((get_or part taken no_cell).at, omega (arith, own, other, moved, more))

-- of both rows nothing was read, or all
pub read-none : (whole part : List Cell) → AreRead whole part 0 0
read-none whole part = record {
  order = omega arith;
  inside = λ q. omega arith;
  ahead = λ j d low short k e within. absurd (omega arith);
  behind = λ j d low short k e within. absurd (omega arith);
}

pub all-within : (whole part : List Cell) (at taken : ℕ) → length whole ≤ at → length part ≤ taken → AreRead whole part at taken → IsWithin part whole
all-within whole part at taken end last read = λ q.
    let known = read.inside q in
    let first = ap (amount q) (take_all taken part last) in
    let second = ap (amount q) (take_all at whole end) in
    omega (arith, known, first, second)

-- the difference with one more cell of the whole
pub difference-there : (whole part : List Cell) (at taken less more : ℕ) → IsRow whole → at < length whole → AreRead whole part at taken → IsTakenOff whole part at taken less more
    → amount (get_or whole at no_cell).at (take (at + 1) whole) - amount (get_or whole at no_cell).at (take more part)
    ≡ (amount (get_or whole at no_cell).at (take at whole) - amount (get_or whole at no_cell).at (take taken part)) + ((get_or whole at no_cell).count - less)
difference-there whole part at taken less more w within read step =
    let cell = get_or whole at no_cell in
    let grows = grown whole at cell.at within in
    let own = count_at-same cell.at cell refl in
    let taken_off = step.counts cell.at in
    let there = count_at-same cell.at (record { at = cell.at; count = less }) refl in
    let nothing : amount cell.at (take taken part) ≡ 0 = amount-none cell.at (take taken part) (λ k d inside. let b = read.behind at no_cell (omega arith) within k d inside in omega (arith, b)) in
    let enough = step.enough in
    omega (arith, grows, own, taken_off, there, nothing, enough)

pub difference-away : (whole part : List Cell) (at taken less more q : ℕ) → at < length whole → IsTakenOff whole part at taken less more → q ≢ (get_or whole at no_cell).at
    → amount q (take (at + 1) whole) - amount q (take more part) ≡ amount q (take at whole) - amount q (take taken part)
difference-away whole part at taken less more q within step away =
    let cell = get_or whole at no_cell in
    let grows = grown whole at q within in
    let own = count_at-other q cell (λ same. away (sym same)) in
    let taken_off = step.counts q in
    let there = count_at-other q (record { at = cell.at; count = less }) (λ same. away (sym same)) in
    omega (arith, grows, own, taken_off, there)
