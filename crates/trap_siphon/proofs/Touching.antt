-- Rows that have places of a set, cell by cell.
use Rattle.std.proofs.Common.{◌≡◌, ℕ, ◌<◌, ◌≤◌, Bool, true, false, ◌&&◌, nat_lt, List, length, get_or, take, take_all, arith, ap, subst, sym, ◌∙◌, All}
use Rattle.std.proofs.lemmas.Bool.{false≢true, and_parts, and_from, false_from_ne_true, lt-ltb, ltb-true}
use Rattle.wide_sums.specs.declared.rows.Cell.{Cell}
use Rattle.wide_sums.specs.Cells.{amount, IsRow}
use Rattle.wide_sums.proofs.Amounts.{amount-at, amount-none}
use Rattle.pt_net.specs.Markings.{IsInRange}
use Rattle.pt_net.specs.Systems.{NetSystem, places, size}
use Rattle.trap_siphon.specs.Sets.{has, some_below, each_below}
use Rattle.trap_siphon.specs.Siphons.{touches, is_siphon, keeps_siphon}
use Rattle.trap_siphon.proofs.Members.{each-at, each-from, some-at, some-from}

pub touches_at : (net : NetSystem) (set : List Bool) (row other : List Cell) (k : ℕ) (d : Cell) → row ≡ other → IsRow row → IsInRange (places net) row → k < length row → has set (get_or row k d).at ≡ true → touches net set other ≡ true
unfolding touches
touches_at net set row other k d is is_row in_range within here =
    let whole = amount-at row k d is_row.rising within in
    let some = (is_row.counted k d within).0 in
    let moved = ap (amount (get_or row k d).at) is in
    some-from (places net) (λ p. has set p && nat_lt 0 (amount p other)) (get_or row k d).at (in_range k d within)
    (and_from (has set (get_or row k d).at) (nat_lt 0 (amount (get_or row k d).at other)) here (lt-ltb 0 (amount (get_or row k d).at other) (omega arith)))

pub touches_none : (net : NetSystem) (set : List Bool) (row other : List Cell) (k : ℕ) → row ≡ other → length row ≤ k → All (λ c. has set c.at ≡ false) (take k row) → touches net set other ≡ false
unfolding touches
touches_none net set row other k is past all =
    let whole : All (λ c. has set c.at ≡ false) row = subst (λ (cs : List Cell). All (λ (c : Cell). has set c.at ≡ false) cs) (take_all k row past) all in
    false_from_ne_true (some_below (places net) (λ p. has set p && nat_lt 0 (amount p other))) (λ some.
    let found = some-at (places net) (λ p. has set p && nat_lt 0 (amount p other)) some in
    let p = found.0 in
    let parts = and_parts (has set p) (nat_lt 0 (amount p other)) found.2 in
    let positive = ltb-true 0 (amount p other) parts.1 in
    let none = amount-none p row (λ j d within at. let off : has set (get_or row j d).at ≡ false = whole j d within in false≢true (sym off ∙ ap (has set) at ∙ parts.0)) in
    let moved = ap (amount p) is in
    absurd (omega arith))

pub siphon_all : (net : NetSystem) (set : List Bool) (k : ℕ) → size net ≤ k → ((i : ℕ) → i < k → keeps_siphon net set i ≡ true) → is_siphon net set ≡ true
unfolding is_siphon
siphon_all net set k past each = each-from (size net) (keeps_siphon net set) (λ i inside. each i (omega arith))

pub siphon_not : (net : NetSystem) (set : List Bool) (i : ℕ) → i < size net → keeps_siphon net set i ≡ false → is_siphon net set ≡ false
unfolding is_siphon
siphon_not net set i inside off = false_from_ne_true (each_below (size net) (keeps_siphon net set)) (λ all. false≢true (sym off ∙ each-at (size net) (keeps_siphon net set) all i inside))
