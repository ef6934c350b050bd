-- The ids of places, transitions and references in one list, each with its number there.
use Rattle.std.specs.Prelude.{ℕ, ◌-◌, nat_lt, List, drop, take, if◌then◌else◌}
use Rattle.net_nodes.specs.declared.nodes.Node.{Node}
use Rattle.net_nodes.specs.declared.nodes.Node.TheVariants as node
use Rattle.net_nodes.specs.Nodes.{NodeIds}

-- so many places, so many transitions, and references
abbrev pub cut : ℕ → ℕ → List (List ℕ) → NodeIds
cut places transitions ids = record { places = take places ids; transitions = take transitions (drop places ids); references = drop transitions (drop places ids) }

abbrev pub node_at : ℕ → ℕ → ℕ → Node
node_at places transitions at =
    if nat_lt at places then node.Place at
    else if nat_lt (at - places) transitions then node.Transition (at - places)
    else node.Reference (at - places - transitions)
