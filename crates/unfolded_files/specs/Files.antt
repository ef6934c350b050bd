-- The net of a file that stands for an unfolded net: a place/transition net of ISO/IEC 15909-2. The ids are this project's own.
use Rattle.std.specs.Prelude.{◌≡◌, ℕ, ◌+◌, ◌-◌, false, List, [], ◌∷◌, ◌++◌, All, codes, length, map, slice_index_or, None}
use Rattle.std.specs.Fmt.{decimal}
use Rattle.std.specs.List.{IsDistinct, range_with_len}
use Rattle.std.specs.Str.{bytes_eq}
use Rattle.wide_sums.specs.declared.rows.Cell.{Cell}
use Rattle.net_model.specs.declared.kinds.Kind.TheVariants.{Pt}
use Rattle.net_model.specs.declared.nets.Arc.{Arc}
use Rattle.net_model.specs.declared.nets.Label.TheVariants.{Count}
use Rattle.net_model.specs.declared.nets.Net.{Net}
use Rattle.net_model.specs.declared.nets.Place.{Place}
use Rattle.net_model.specs.declared.nets.Transition.{Transition}
use Rattle.net_model.specs.declared.sorts.SortTerm.TheVariants as sort
use Rattle.pt_net.specs.declared.instances.Instance.{Instance}
use Rattle.pt_net.specs.Numbering.{NetNumbering}
use Rattle.pt_net.specs.Systems.{NetSystem}

-- the id of an instance: that of the place or transition, a dot, and the number of the colour or of the binding
abbrev pub instance_id : List ℕ → ℕ → List ℕ
instance_id id k = id ++ 46 ∷ decimal k

-- the ids of all place instances, by place and then by colour; `starts` has the first instance of each place, and at its end the number of all
abbrev pub place_ids_of : List (List ℕ) → List ℕ → List (List ℕ)
place_ids_of (id ∷ ids) (first ∷ next ∷ more) = map (instance_id id) (range_with_len 0 (next - first)) ++ place_ids_of ids (next ∷ more)
place_ids_of _ _ = []

abbrev pub place_ids : NetNumbering → List (List ℕ)
place_ids l = place_ids_of l.places l.starts

-- the ids of transition instances
abbrev pub transition_id : NetNumbering → Instance → List ℕ
transition_id l t = instance_id (slice_index_or l.transitions t.transition []) t.binding

abbrev pub transition_ids : NetNumbering → NetSystem → List (List ℕ)
transition_ids l u = map (transition_id l) u.instances

-- the id of an arc
abbrev pub arc_id : ℕ → List ℕ
arc_id number = codes "arc" ++ decimal number

-- places with their counts, and transitions without guards
abbrev pub place_with : List ℕ → ℕ → Place
place_with id count = record { id = id; sort = sort.Dot; marking = Count count }

abbrev pub places_with : List (List ℕ) → List ℕ → List Place
places_with (id ∷ ids) (count ∷ counts) = place_with id count ∷ places_with ids counts
places_with _ _ = []

abbrev pub transition_with : List ℕ → Transition
transition_with id = record { id = id; guard = None }

-- an arc for each cell of a row, from its place to the transition or back
abbrev pub id_at : List (List ℕ) → ℕ → List ℕ
id_at ids p = slice_index_or ids p []

abbrev pub input_arc : List (List ℕ) → List ℕ → ℕ → Cell → Arc
input_arc ids t number c = record { id = arc_id number; source = id_at ids c.at; target = t; label = Count c.count }

abbrev pub output_arc : List (List ℕ) → List ℕ → ℕ → Cell → Arc
output_arc ids t number c = record { id = arc_id number; source = t; target = id_at ids c.at; label = Count c.count }

abbrev pub numbered_arcs : (ℕ → Cell → Arc) → ℕ → List Cell → List Arc
numbered_arcs arc number [] = []
numbered_arcs arc number (c ∷ cs) = arc number c ∷ numbered_arcs arc (number + 1) cs

-- the arcs of an instance, numbered on: its inputs by place, then its outputs
abbrev pub arcs_of : List (List ℕ) → List ℕ → ℕ → Instance → List Arc
arcs_of ids t number i = numbered_arcs (input_arc ids t) number i.pre ++ numbered_arcs (output_arc ids t) (number + length i.pre) i.post

-- the arcs of all instances
abbrev pub all_arcs : List (List ℕ) → ℕ → List (List ℕ) → List Instance → List Arc
all_arcs ids number (t ∷ ts) (i ∷ is) = arcs_of ids t number i ++ all_arcs ids (number + length i.pre + length i.post) ts is
all_arcs ids number _ _ = []

-- the net of a file with this id, of which the places and the transitions have these ids
abbrev pub file_net : List ℕ → List (List ℕ) → List (List ℕ) → NetSystem → Net
file_net id places transitions u = record {
  id = id;
  kind = Pt;
  sorts = [];
  partitions = [];
  variables = [];
  places = places_with places u.initial;
  transitions = map transition_with transitions;
  references = [];
  arcs = all_arcs places 0 transitions u.instances;
}

-- the net of a file that stands for an unfolded net, whose instances have these numbers
abbrev pub unfolded_file : List ℕ → NetNumbering → NetSystem → Net
unfolded_file id l u = file_net id (place_ids l) (transition_ids l u) u
