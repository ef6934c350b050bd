-- A place/transition net as plain data, and what its reduction leaves of it (this project's own).
use Rattle.std.specs.Prelude.{ℕ, Bool, not, List, map, nat_lt, slice_index}
use Rattle.std.specs.List.{range_with_len}
use Rattle.pt_net.specs.Systems.{NetSystem, instance_at, places, size, pre, post}
use Rattle.trap_siphon.specs.Sets.{has}
use Rattle.reductions.specs.Numbers.{numbers}
use Rattle.reductions.specs.Rounds.{live}
use Rattle.reductions.specs.Reduced.{last_active, reduced, without_constants}
use Rattle.reductions.specs.Slots.{last_constant}
use Rattle.cert_model.specs.Nets.{Counts, Instance, Live, Net}

-- the inputs at the first `n` places, each a place and a count, in place order
abbrev pub inputs : ℕ → Counts → List (ℕ × ℕ)
inputs n takes = map (λ p. (p, takes p)) (numbers n (λ p. nat_lt 0 (takes p)))

abbrev pub plain_instance : NetSystem → ℕ → Instance
plain_instance net i = record { number = i; pre = pre net i; post = post net i }

abbrev pub plain_live : NetSystem → ℕ → Live
plain_live net i = record { transition = (instance_at net i).transition; needs = inputs (places net) (pre net i) }

-- the net with all its places and instances
abbrev pub plain : NetSystem → Net
plain net = record {
  places = places net;
  initial = slice_index net.initial;
  kept = map (plain_instance net) (range_with_len 0 (size net));
  live = map (plain_live net) (range_with_len 0 (size net));
}

-- the places that the reduction keeps, in order, and the one that has this number in the reduced net
abbrev pub kept_places : NetSystem → List ℕ
kept_places net = numbers (places net) (λ p. not (has (last_constant net) p))

abbrev pub kept_place : NetSystem → ℕ → ℕ
kept_place net q = slice_index (kept_places net) q

-- the instances that are live in the last round, kept and merged
abbrev pub last_live : NetSystem → List Bool
last_live net = live net (last_active net)

-- a live instance, with its inputs on the places of the reduced net
abbrev pub reduced_live : NetSystem → ℕ → Live
reduced_live net i = record { transition = (instance_at net i).transition; needs = inputs (places (reduced net)) (λ q. pre net i (kept_place net q)) }

-- the reduced net, with the live instances of the net
abbrev pub plain_reduced : NetSystem → Net
plain_reduced net = record (plain (reduced net)) { live = map (reduced_live net) (numbers (size net) (has (last_live net))) }

-- the counts of a marking on the places of the reduced net
abbrev pub kept_counts : NetSystem → List ℕ → Counts
kept_counts net marking = slice_index (without_constants net (last_constant net) marking)
