-- How the net of a file is read as a coloured net (ISO/IEC 15909-1 and -2, symmetric nets). `follow` tells the id of the node that a
-- reference stands for in the end, and the id itself of any other node.
use Rattle.std.specs.Prelude.{ℕ, ◌+◌, Bool, true, false, ◌||◌, List, [], ◌∷◌, ◌++◌, length, map, filter, slice_index, slice_index_or, position, Option, None, Some, if◌then◌else◌}
use Rattle.std.specs.List.{list_any, position_or_len}
use Rattle.std.specs.Str.{bytes_eq}
use Rattle.colour_sorts.specs.declared.sorts.Colour.{Colour}
use Rattle.colour_sorts.specs.declared.sorts.Colour.TheVariants as colour
use Rattle.colour_sorts.specs.declared.sorts.Sort.{Sort}
use Rattle.colour_sorts.specs.declared.sorts.Sort.TheVariants as sort
use Rattle.net_model.specs.Ids.{variable_ids}
use Rattle.net_model.specs.declared.nets.Arc.{Arc}
use Rattle.net_model.specs.declared.nets.Label.{Label}
use Rattle.net_model.specs.declared.nets.Label.TheVariants.{Absent, Count, Multiset}
use Rattle.net_model.specs.declared.nets.Net.{Net}
use Rattle.net_model.specs.declared.nets.Place.{Place}
use Rattle.net_model.specs.declared.nets.Transition.{Transition}
use Rattle.net_model.specs.declared.nets.VariableDecl.{VariableDecl}
use Rattle.net_model.specs.declared.terms.Guard.{Guard}
use Rattle.multiset_terms.specs.Context.{Context}
use Rattle.multiset_terms.specs.Standing.{occurs, occurs_in_guard}
use Rattle.multiset_terms.specs.Typing.{at_place, sort_named}
use Rattle.multiset_terms.specs.Values.{Binding, colours_of, den, is_defined, truth}
use Rattle.pt_net.specs.declared.instances.Side.{Side}
use Rattle.pt_net.specs.declared.instances.Side.TheVariants.{Pre, Post}
use Rattle.net_firing.specs.Coloured.{ColouredArc, ColouredNet, ColouredPlace, ColouredTransition, Value}

-- what the terms of a net stand over
abbrev pub declared_in : Net → Context
declared_in net = record { sorts = net.sorts; partitions = net.partitions; variables = record { ids = []; sorts = [] } }

abbrev pub context_of : Net → Context
context_of net = record {
  sorts = net.sorts;
  partitions = net.partitions;
  variables = record { ids = variable_ids net.variables; sorts = map (λ v. sort_named (declared_in net) v.sort) net.variables };
}

abbrev pub colour_at : Context → Sort → ℕ → Colour
colour_at ctx s k = slice_index_or (colours_of ctx s) k colour.Dot

-- the value of a label over a sort: a number of dots, or that of a term; where there is none, it is empty
abbrev pub value_of : Context → Sort → Binding → Label → Value
value_of ctx s b Absent = record { count = λ _. 0; is_defined = true }
value_of ctx s b (Count n) = record { count = λ _. n; is_defined = true }
value_of ctx s b (Multiset t) = record { count = λ k. den ctx t b (colour_at ctx s k); is_defined = is_defined ctx t b }

-- no variable occurs in a marking
abbrev pub no_colours : Binding
no_colours _ = colour.Dot

abbrev pub sort_of_place : Net → Place → Sort
sort_of_place net p = sort_named (context_of net) p.sort

abbrev pub place_of : Net → Place → ColouredPlace
place_of net p = record {
  size = length (colours_of (context_of net) (sort_of_place net p));
  initial = (value_of (context_of net) (sort_of_place net p) no_colours p.marking).count;
}

-- the arcs of a transition, each with its number and its side, references followed
pub record NodeArc : Type 0 where
  pub number : ℕ
  pub side : Side
  pub place : List ℕ
  pub label : Label

abbrev pub arcs_from : (List ℕ → List ℕ) → List ℕ → ℕ → List Arc → List NodeArc
arcs_from follow t number [] = []
arcs_from follow t number (a ∷ more) =
    (if bytes_eq t (follow a.target) then record { number = number; side = Pre; place = follow a.source; label = a.label } ∷ []
    else if bytes_eq t (follow a.source) then record { number = number; side = Post; place = follow a.target; label = a.label } ∷ [] else [])
    ++ arcs_from follow t (number + 1) more

abbrev pub arcs_of : (List ℕ → List ℕ) → Net → Transition → List NodeArc
arcs_of follow net t = arcs_from follow t.id 0 net.arcs

-- the variables of a transition: those that occur in its guard or at one of its arcs, in the order of their declarations
abbrev pub occurs_at : List ℕ → Label → Bool
occurs_at id (Multiset t) = occurs id t
occurs_at id _ = false

abbrev pub occurs_in : List ℕ → Option Guard → Bool
occurs_in id None = false
occurs_in id (Some g) = occurs_in_guard id g

abbrev pub variables_of : (List ℕ → List ℕ) → Net → Transition → List VariableDecl
variables_of follow net t = filter (λ v. occurs_in v.id t.guard || list_any (λ a. occurs_at v.id a.label) (arcs_of follow net t)) net.variables

-- the colour of each variable in a list of colours of variables
abbrev pub sort_of_variable : Net → VariableDecl → Sort
sort_of_variable net v = sort_named (context_of net) v.sort

abbrev pub colour_of : Net → List VariableDecl → List ℕ → ℕ → Colour
colour_of net variables b at = slice_index_or (map (λ v. colour_at (context_of net) (sort_of_variable net v) (slice_index b at)) variables) at colour.Dot

abbrev pub binding_of : Net → List VariableDecl → List ℕ → Binding
binding_of net variables b id = at_place colour.Dot (colour_of net variables b) (position (bytes_eq id) (variable_ids variables))

-- the guard; where there is none, it is true
abbrev pub truth_of : Context → Option Guard → Binding → Bool
truth_of ctx None b = true
truth_of ctx (Some g) b = truth ctx g b

-- the inscription of an arc: where there is none, it is one dot
abbrev pub inscription : Label → Label
inscription Absent = Count 1
inscription (Count n) = Count n
inscription (Multiset t) = Multiset t

-- an arc with the value of its inscription over the sort of its place
abbrev pub place_number : Net → List ℕ → ℕ
place_number net id = position_or_len (λ p. bytes_eq id p.id) net.places

abbrev pub sort_at_place : Net → ℕ → Sort
sort_at_place net at = slice_index_or (map (sort_of_place net) net.places) at sort.Dot

abbrev pub arc_of : Net → List VariableDecl → NodeArc → ColouredArc
arc_of net variables a = record {
  number = a.number;
  side = a.side;
  place = place_number net a.place;
  value = λ b. value_of (context_of net) (sort_at_place net (place_number net a.place)) (binding_of net variables b) (inscription a.label);
}

abbrev pub transition_with : Net → List VariableDecl → List NodeArc → Option Guard → ColouredTransition
transition_with net variables arcs guard = record {
  sizes = map (λ v. length (colours_of (context_of net) (sort_of_variable net v))) variables;
  guard = λ b. truth_of (context_of net) guard (binding_of net variables b);
  arcs = map (arc_of net variables) arcs;
}

abbrev pub transition_of : (List ℕ → List ℕ) → Net → Transition → ColouredTransition
transition_of follow net t = transition_with net (variables_of follow net t) (arcs_of follow net t) t.guard

-- the coloured net of the net of a file
abbrev pub coloured_net : (List ℕ → List ℕ) → Net → ColouredNet
coloured_net follow net = record { places = map (place_of net) net.places; transitions = map (transition_of follow net) net.transitions }
