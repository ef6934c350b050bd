-- The reduced net is a net, and equal rows are equal lists.
use Rattle.std.proofs.Common.{◌≡◌, ℕ, ◌+◌, ◌<◌, ◌≤◌, ◌^◌, Bool, true, false, not, inl, inr, List, [], ◌∷◌, map, filter, length, get_or, arith, refl, ap, subst, subst₂, sym, ◌∙◌, All, sum_by, slice_index}
use Rattle.std.proofs.lemmas.Bool.{cases_lt}
use Rattle.std.proofs.lemmas.List.{length-map, get_or-map, take_all}
use Rattle.std.proofs.lemmas.List.Elements.{All-head, All-tail, All-map, All-nil, All-cons}
use Rattle.std.proofs.lemmas.List.Kept.{AllPairs-cons}
use Rattle.std.proofs.lemmas.Grind.{get_or_default_zero}
use Rattle.std.proofs.lemmas.List.Sums.{length-filter, count_by-le-length, sum_by-cons}
use Rattle.wide_sums.specs.declared.rows.Cell.{Cell}
use Rattle.wide_sums.specs.Cells.{amount, count_at, IsRow, IsRising}
use Rattle.wide_sums.proofs.Amounts.{amount-cons, count_at-same, count_at-other, amount-none, amount-behind, above_first, rising_behind}
use Rattle.pt_net.specs.declared.instances.Instance.{Instance}
use Rattle.pt_net.specs.Instances.{origin_of, IsBefore}
use Rattle.pt_net.specs.Markings.{IsInRange}
use Rattle.pt_net.specs.Systems.{NetSystem, IsSystem, instance_at, places, size}
use Rattle.trap_siphon.specs.Sets.{has}
use Rattle.reductions.specs.Numbers.{numbers, rank}
use Rattle.reductions.specs.Reduced.{row_on, instance_on, counts_on, reduced_by}
use Rattle.reductions.proofs.Numbers.{stands_at, numbered, rank-le, rank_less, numbers_rise, numbers_sum}
use Rattle.reductions.proofs.Rows.{renumbered, row_on_more}

-- rows with the same amounts everywhere are the same lists of cells
behind_none : (c : Cell) (cs : List Cell) (p : ℕ) → IsRising (c ∷ cs) → p < c.at → amount p (c ∷ cs) ≡ 0
behind_none c cs p rising below =
    let first = count_at-other p c (λ same. absurd (omega arith)) in
    let rest = amount-none p cs (λ k d within same. let above : c.at < (get_or cs k d).at = above_first c cs rising k d within in absurd (omega arith)) in
    omega (arith, amount-cons p c cs)

head_amount : (c : Cell) (cs : List Cell) → IsRising (c ∷ cs) → amount c.at (c ∷ cs) ≡ c.count
head_amount c cs rising = let own = count_at-same c.at c refl in let rest = amount-behind c cs rising in omega (arith, amount-cons c.at c cs)

row_tail : (c : Cell) (cs : List Cell) → IsRow (c ∷ cs) → IsRow cs
row_tail c cs row = record { rising = rising_behind c cs row.rising; counted = All-tail (λ d. (0 < d.count) × (d.count < 2 ^ 63)) c cs row.counted }

head_some : (c : Cell) (cs : List Cell) → IsRow (c ∷ cs) → 0 < c.count
head_some c cs row = (All-head (λ d. (0 < d.count) × (d.count < 2 ^ 63)) c cs row.counted).0

same_heads : (c d : Cell) (cs ds : List Cell) → IsRow (c ∷ cs) → IsRow (d ∷ ds) → ((p : ℕ) → amount p (c ∷ cs) ≡ amount p (d ∷ ds)) → c.at ≡ d.at
same_heads c d cs ds one two same = elim (cases_lt c.at d.at) [
  | inl below ↦
      let none = behind_none d ds c.at two.rising below in
      let some = head_amount c cs one.rising in
      let positive = head_some c cs one in
      let equal = same c.at in
      absurd (omega arith)
  | inr above ↦ elim (cases_lt d.at c.at) [
    | inl below ↦
        let none = behind_none c cs d.at one.rising below in
        let some = head_amount d ds two.rising in
        let positive = head_some d ds two in
        let equal = same d.at in
        absurd (omega arith)
    | inr over ↦ omega arith
  ]
]

same_cells : (c d : Cell) → c.at ≡ d.at → c.count ≡ d.count → c ≡ d
same_cells c d at count = ap (λ (n : ℕ). let e : Cell = record { at = n; count = c.count } in e) at ∙ ap (λ (n : ℕ). let e : Cell = record { at = d.at; count = n } in e) count

pub same_rows : (a b : List Cell) → IsRow a → IsRow b → ((p : ℕ) → amount p a ≡ amount p b) → a ≡ b
same_rows [] [] one two same = refl
same_rows [] (d ∷ ds) one two same = let equal = same d.at in let some = head_amount d ds two.rising in let positive = head_some d ds two in absurd (omega arith)
same_rows (c ∷ cs) [] one two same = let equal = same c.at in let some = head_amount c cs one.rising in let positive = head_some c cs one in absurd (omega arith)
same_rows (c ∷ cs) (d ∷ ds) one two same =
    let at = same_heads c d cs ds one two same in
    let left = head_amount c cs one.rising in
    let right = head_amount d ds two.rising in
    let moved = ap (λ p. amount p (d ∷ ds)) at in
    let equal = same c.at in
    let cells = same_cells c d at (omega arith) in
    let rest = same_rows cs ds (row_tail c cs one) (row_tail d ds two) (λ p.
    let whole = same p in
    let first = ap (λ (e : Cell). count_at p e) cells in
    omega (arith, amount-cons p c cs, amount-cons p d ds)) in
    ap (λ (e : Cell). e ∷ cs) cells ∙ ap (λ (es : List Cell). d ∷ es) rest

-- a row on the places that stay is in range, and no longer
pub row_on-length : (stays : ℕ → Bool) (row : List Cell) → length (row_on stays row) ≤ length row
row_on-length stays row =
    let one = length-map (filter (λ (c : Cell). stays c.at) row) (λ c. let e : Cell = record { at = rank stays c.at; count = c.count } in e) in
    let two = length-filter (λ (c : Cell). stays c.at) row in
    let three = count_by-le-length (λ (c : Cell). stays c.at) row in
    omega arith

-- cell by cell
range_more : (b : Bool) (n : ℕ) (stays : ℕ → Bool) (c : Cell) (cs : List Cell) → stays c.at ≡ b → c.at < n → IsInRange (length (numbers n stays)) (row_on stays cs) → IsInRange (length (numbers n stays)) (row_on stays (c ∷ cs))
range_more true n stays c cs stay low rest =
    subst (IsInRange (length (numbers n stays))) (sym (row_on_more true stays c cs stay)) (All-cons (λ d. d.at < length (numbers n stays)) (renumbered stays c) (row_on stays cs) (stands_at n stays c.at low stay).within rest)
range_more false n stays c cs gone low rest = subst (IsInRange (length (numbers n stays))) (sym (row_on_more false stays c cs gone)) rest

row_on-range : (n : ℕ) (stays : ℕ → Bool) (row : List Cell) → IsInRange n row → IsInRange (length (numbers n stays)) (row_on stays row)
row_on-range n stays [] range = All-nil (λ d. d.at < length (numbers n stays))
row_on-range n stays (c ∷ cs) range =
    range_more (stays c.at) n stays c cs refl (All-head (λ d. d.at < n) c cs range) (row_on-range n stays cs (All-tail (λ d. d.at < n) c cs range))

above_more : (b : Bool) (stays : ℕ → Bool) (a : ℕ) (c : Cell) (cs : List Cell) → stays c.at ≡ b → stays a ≡ true → a < c.at → All (λ d. rank stays a < d.at) (row_on stays cs) → All (λ d. rank stays a < d.at) (row_on stays (c ∷ cs))
above_more true stays a c cs stay stay' above rest =
    subst (λ (row : List Cell). All (λ (d : Cell). rank stays a < d.at) row) (sym (row_on_more true stays c cs stay)) (All-cons (λ d. rank stays a < d.at) (renumbered stays c) (row_on stays cs) (rank_less a c.at stays above stay') rest)
above_more false stays a c cs gone stay' above rest = subst (λ (row : List Cell). All (λ (d : Cell). rank stays a < d.at) row) (sym (row_on_more false stays c cs gone)) rest

above_on : (stays : ℕ → Bool) (a : ℕ) (cs : List Cell) → stays a ≡ true → All (λ d. a < d.at) cs → All (λ d. rank stays a < d.at) (row_on stays cs)
above_on stays a [] stay above = All-nil (λ d. rank stays a < d.at)
above_on stays a (c ∷ cs) stay above =
    above_more (stays c.at) stays a c cs refl stay (All-head (λ d. a < d.at) c cs above) (above_on stays a cs stay (All-tail (λ d. a < d.at) c cs above))

is_row_more : (b : Bool) (stays : ℕ → Bool) (c : Cell) (cs : List Cell) → stays c.at ≡ b → IsRow (c ∷ cs) → IsRow (row_on stays cs) → IsRow (row_on stays (c ∷ cs))
is_row_more true stays c cs stay row rest =
    subst IsRow (sym (row_on_more true stays c cs stay)) (record {
      rising = AllPairs-cons (λ a b. a.at < b.at) (renumbered stays c) (row_on stays cs) (above_on stays c.at cs stay (above_first c cs row.rising)) rest.rising;
      counted = All-cons (λ d. (0 < d.count) × (d.count < 2 ^ 63)) (renumbered stays c) (row_on stays cs) (All-head (λ d. (0 < d.count) × (d.count < 2 ^ 63)) c cs row.counted) rest.counted;
    })
is_row_more false stays c cs gone row rest = subst IsRow (sym (row_on_more false stays c cs gone)) rest

pub row_on-is_row : (stays : ℕ → Bool) (row : List Cell) → IsRow row → IsRow (row_on stays row)
row_on-is_row stays [] row = row
row_on-is_row stays (c ∷ cs) row = is_row_more (stays c.at) stays c cs refl row (row_on-is_row stays cs (row_tail c cs row))

-- the reduced net meets what is true of each net
abbrev none : Instance
none = record { transition = 0; binding = 0; pre = []; post = [] }

get_or_same : (xs : List ℕ) (k d : ℕ) → k < length xs → get_or xs k 0 ≡ get_or xs k d
get_or_same xs k d within = sym (get_or_default_zero xs k d within)

pub sum_by-map : {X Y : Type 0} (g : Y → ℕ) (f : X → Y) (xs : List X) → sum_by g (map f xs) ≡ sum_by (λ x. g (f x)) xs
sum_by-map g f [] = refl
sum_by-map g f (x ∷ xs) = sum_by-cons g (f x) (map f xs) ∙ ap (λ k. g (f x) + k) (sum_by-map g f xs) ∙ sym (sum_by-cons (λ y. g (f y)) x xs)

abbrev staying : NetSystem → List Bool → List ℕ
staying net still = numbers (places net) (λ p. not (has still p))

abbrev chosen : NetSystem → List Bool → List ℕ
chosen net ks = numbers (size net) (has ks)

kept_at : (net : NetSystem) (ks : List Bool) (i : ℕ) → i < length (chosen net ks) → get_or (chosen net ks) i 0 < size net
kept_at net ks i within = (numbered (size net) (has ks) i within).below

-- what is true of each instance is true of each kept one
each_kept : (net : NetSystem) (still ks : List Bool) (P : Instance → Type 0) → ((i : ℕ) → i < size net → P (instance_on (λ p. not (has still p)) (instance_at net i)))
    → All P (map (λ i. instance_on (λ p. not (has still p)) (instance_at net i)) (chosen net ks))
each_kept net still ks P each = All-map P (λ i. instance_on (λ p. not (has still p)) (instance_at net i)) (chosen net ks) (λ k d within.
    subst (λ i. P (instance_on (λ p. not (has still p)) (instance_at net i))) (get_or_same (chosen net ks) k d within) (each (get_or (chosen net ks) k 0) (kept_at net ks k within)))

pub reduced_is_system : (net : NetSystem) (still ks : List Bool) → IsSystem net → IsSystem (reduced_by net still ks)
unfolding reduced_by
reduced_is_system net still ks is_system =
    let as_many = length-map (staying net still) (slice_index net.initial) in
    let few_places = rank-le (places net) (λ p. not (has still p)) in
    let few = rank-le (size net) (has ks) in
    let on = λ (i : ℕ). instance_on (λ p. not (has still p)) (instance_at net i) in
    let many = length-map (chosen net ks) on in
    let bound_places = is_system.places in
    let bound = is_system.instances in
    record {
      counts = All-map (λ k. k < 2 ^ 63) (slice_index net.initial) (staying net still) (λ k d within.
          subst (λ i. slice_index net.initial i < 2 ^ 63) (get_or_same (staying net still) k d within)
          (is_system.counts (get_or (staying net still) k 0) 0 (numbered (places net) (λ p. not (has still p)) k within).below));
      places = omega arith;
      instances = omega arith;
      rising = λ i j d below within.
          let inside : j < length (chosen net ks) = omega arith in
          let before : i < length (chosen net ks) = omega arith in
          subst₂ (λ s t. IsBefore (origin_of s) (origin_of t)) (sym (get_or-map on (chosen net ks) i 0 d before)) (sym (get_or-map on (chosen net ks) j 0 d inside))
          (is_system.rising (get_or (chosen net ks) i 0) (get_or (chosen net ks) j 0) none (numbers_rise (size net) (has ks) i j below inside) (kept_at net ks j inside));
      inputs_in_range = each_kept net still ks (λ t. IsInRange (length (counts_on net (λ p. not (has still p)) net.initial)) t.pre) (λ i inside.
          subst (λ n. IsInRange n (row_on (λ p. not (has still p)) (instance_at net i).pre)) (sym as_many) (row_on-range (places net) (λ p. not (has still p)) (instance_at net i).pre (is_system.inputs_in_range i none inside)));
      outputs_in_range = each_kept net still ks (λ t. IsInRange (length (counts_on net (λ p. not (has still p)) net.initial)) t.post) (λ i inside.
          subst (λ n. IsInRange n (row_on (λ p. not (has still p)) (instance_at net i).post)) (sym as_many) (row_on-range (places net) (λ p. not (has still p)) (instance_at net i).post (is_system.outputs_in_range i none inside)));
      inputs =
          let sums = numbers_sum net.instances (λ t. length t.pre) (λ i. length (on i).pre) none (has ks) (λ i inside. row_on-length (λ p. not (has still p)) (instance_at net i).pre) (size net) (omega arith) in
          let whole = ap (λ (ts : List Instance). sum_by (λ t. length t.pre) ts) (take_all (size net) net.instances (omega arith)) in
          let moved = sum_by-map (λ (t : Instance). length t.pre) on (chosen net ks) in
          let low = is_system.inputs in
          omega arith;
      outputs =
          let sums = numbers_sum net.instances (λ t. length t.post) (λ i. length (on i).post) none (has ks) (λ i inside. row_on-length (λ p. not (has still p)) (instance_at net i).post) (size net) (omega arith) in
          let whole = ap (λ (ts : List Instance). sum_by (λ t. length t.post) ts) (take_all (size net) net.instances (omega arith)) in
          let moved = sum_by-map (λ (t : Instance). length t.post) on (chosen net ks) in
          let low = is_system.outputs in
          omega arith;
    }
