-- Which places can be marked, stage by stage, when some instances are active: what is outside the last stage is a siphon (Murata 1989).
use Rattle.std.specs.Prelude.{ℕ, zero, suc, Bool, ◌&&◌, ◌||◌, nat_eq, nat_lt, List, slice_index}
use Rattle.pt_net.specs.Systems.{NetSystem, places, size, pre, post}
use Rattle.trap_siphon.specs.Sets.{has, set_of, each_below, some_below}

-- the inputs of the instance, the places from which it takes, are all in the set
unfoldable pub has_inputs : NetSystem → List Bool → ℕ → Bool
has_inputs net set i = each_below (places net) (λ p. nat_eq (pre net i p) 0 || has set p)

-- the set with the outputs of each active instance whose inputs are all in the set
unfoldable pub next_stage : NetSystem → List Bool → List Bool → List Bool
next_stage net active set =
    set_of (places net) (λ p. has set p || some_below (size net) (λ i. has active i && (has_inputs net set i && nat_lt 0 (post net i p))))

-- stage 0 has the places that are marked
unfoldable pub stage : NetSystem → List Bool → List ℕ → ℕ → List Bool
stage net active marking zero = set_of (places net) (λ p. nat_lt 0 (slice_index marking p))
stage net active marking (suc j) = next_stage net active (stage net active marking j)

-- the last stage, whose number is the number of places
abbrev pub last_stage : NetSystem → List Bool → List ℕ → List Bool
last_stage net active marking = stage net active marking (places net)
