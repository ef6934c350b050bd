-- The reduced net: the places that aren't constant, and one of the live instances that are equal on them.
use Rattle.std.specs.Prelude.{ℕ, ◌-◌, Bool, true, false, not, ◌&&◌, ◌||◌, nat_eq, List, map, filter, slice_index, if◌then◌else◌}
use Rattle.std.specs.List.{range_with_len}
use Rattle.wide_sums.specs.declared.rows.Cell.{Cell}
use Rattle.pt_net.specs.declared.instances.Instance.{Instance}
use Rattle.pt_net.specs.Systems.{NetSystem, instance_at, system_of, places, size, pre, post}
use Rattle.reductions.specs.declared.Fate.{Fate}
use Rattle.reductions.specs.declared.Fate.TheVariants.{Dead, Blocked, Kept, Merged}
use Rattle.trap_siphon.specs.Sets.{has, set_of, each_below, some_below}
use Rattle.reductions.specs.Numbers.{numbers, rank, least}
use Rattle.reductions.specs.Rounds.{undead, constant, live, active, rounds}

-- the instances that are active in the last round, and what it finds
abbrev pub last_active : NetSystem → List Bool
last_active net = active net (rounds net - 1)

-- two instances take and put the same on all places that aren't constant
unfoldable pub are_equal : NetSystem → List Bool → ℕ → ℕ → Bool
are_equal net constant i j =
    each_below (places net) (λ p. has constant p || (nat_eq (pre net i p) (pre net j p) && nat_eq (post net i p) (post net j p)))

-- the live instances that no earlier live one equals
unfoldable pub kept : NetSystem → List Bool → List Bool → List Bool
kept net constant live = set_of (size net) (λ i. has live i && not (some_below i (λ j. has live j && are_equal net constant j i)))

-- a row on the places that stay, under their new numbers
abbrev pub row_on : (ℕ → Bool) → List Cell → List Cell
row_on stays row = map (λ c. record { at = rank stays c.at; count = c.count }) (filter (λ c. stays c.at) row)

abbrev pub instance_on : (ℕ → Bool) → Instance → Instance
instance_on stays t = record { transition = t.transition; binding = t.binding; pre = row_on stays t.pre; post = row_on stays t.post }

-- the counts of the places that stay
abbrev pub counts_on : NetSystem → (ℕ → Bool) → List ℕ → List ℕ
counts_on net stays marking = map (slice_index marking) (numbers (places net) stays)

-- a net on the places that aren't constant, with the kept instances
unfoldable pub reduced_by : NetSystem → List Bool → List Bool → NetSystem
reduced_by net constant kept =
    system_of (counts_on net (λ p. not (has constant p)) net.initial)
    (map (λ i. instance_on (λ p. not (has constant p)) (instance_at net i)) (numbers (size net) (has kept)))

-- the net that the round over these active instances gives, and the marking without the constant places
abbrev pub reduced_over : NetSystem → List Bool → NetSystem
reduced_over net active = reduced_by net (constant net active) (kept net (constant net active) (live net active))

unfoldable pub without_constants : NetSystem → List Bool → List ℕ → List ℕ
without_constants net constant marking = counts_on net (λ p. not (has constant p)) marking

-- the marking with the initial counts put back on the constant places
unfoldable pub with_constants : NetSystem → List Bool → List ℕ → List ℕ
with_constants net constant counts =
    map (λ p. if has constant p then slice_index net.initial p else slice_index counts (rank (λ q. not (has constant q)) p)) (range_with_len 0 (places net))

abbrev pub reduced : NetSystem → NetSystem
reduced net = reduced_over net (last_active net)

-- an instance is dead in round `k + 1`
abbrev pub is_dead : NetSystem → ℕ → ℕ → Bool
is_dead net i k = has (active net k) i && not (has (undead net (active net k)) i)

-- an instance is blocked in round `k + 1`
abbrev pub is_blocked : NetSystem → ℕ → ℕ → Bool
is_blocked net i k = has (undead net (active net k)) i && not (has (live net (active net k)) i)

-- what became of the instance, when `constant` and `live` are those of the last round
unfoldable pub fate_among : NetSystem → List Bool → List Bool → List Bool → ℕ → Fate
fate_among net constant live kept i = elim (has kept i) [
  | true ↦ Kept (rank (has kept) i)
  | false ↦ elim (has live i) [
    | true ↦ Merged (rank (has kept) (least (size net) (λ j. has live j && are_equal net constant j i) 0))
    | false ↦ elim (some_below (rounds net) (is_dead net i)) [ true ↦ Dead | false ↦ Blocked ]
  ]
]

abbrev pub fate : NetSystem → ℕ → Fate
fate net i = fate_among net (constant net (last_active net)) (live net (last_active net)) (kept net (constant net (last_active net)) (live net (last_active net))) i
