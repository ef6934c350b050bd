-- The rounds of the reduction (this project's own).
use Rattle.std.specs.Prelude.{ℕ, zero, suc, ◌-◌, Bool, true, not, ◌&&◌, ◌||◌, nat_eq, nat_le, List, slice_index}
use Rattle.pt_net.specs.Systems.{NetSystem, places, size, pre, post}
use Rattle.trap_siphon.specs.Sets.{has, set_of, each_below}
use Rattle.trap_siphon.specs.Stages.{has_inputs, last_stage}
use Rattle.reductions.specs.Numbers.{least, is_same}

-- what one round finds when these instances are active: the places that can be marked
abbrev pub marked : NetSystem → List Bool → List Bool
marked net active = last_stage net active net.initial

-- the active instances whose inputs can all be marked; the other active ones are dead
unfoldable pub undead_over : NetSystem → List Bool → List Bool → List Bool
undead_over net active marked = set_of (size net) (λ i. has active i && has_inputs net marked i)

abbrev pub undead : NetSystem → List Bool → List Bool
undead net active = undead_over net active (marked net active)

-- the places that no undead instance changes
unfoldable pub unchanged : NetSystem → List Bool → List Bool
unchanged net undead = set_of (places net) (λ p. each_below (size net) (λ i. not (has undead i) || nat_eq (pre net i p) (post net i p)))

abbrev pub constant : NetSystem → List Bool → List Bool
constant net active = unchanged net (undead net active)

-- the undead instances that take no more from the constant places than is there; the other undead ones are blocked
unfoldable pub unblocked : NetSystem → List Bool → List Bool → List Bool
unblocked net undead constant =
    set_of (size net) (λ i. has undead i && each_below (places net) (λ p. not (has constant p) || nat_le (pre net i p) (slice_index net.initial p)))

abbrev pub live : NetSystem → List Bool → List Bool
live net active = unblocked net (undead net active) (constant net active)

-- the instances that are live after `k` rounds
unfoldable pub active : NetSystem → ℕ → List Bool
active net zero = set_of (size net) (λ i. true)
active net (suc k) = live net (active net k)

-- the least number of rounds from 1 on that ends with what the one before it did, or 64 where this is less
unfoldable pub rounds : NetSystem → ℕ
rounds net = least 63 (λ k. is_same (active net k) (active net (k - 1))) 1
