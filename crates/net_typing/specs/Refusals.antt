-- Why a net is refused: the first check that fails, in an order that is this project's own. References are followed by their names.
use Rattle.std.specs.Prelude.{◌≡◌, ℕ, ◌+◌, ◌*◌, ◌-◌, ◌^◌, nat_eq, nat_lt, Bool, true, false, ◌&&◌, ◌||◌, List, [], ◌∷◌, ◌++◌, map, sum_by, slice_index_or, Option, None, Some, if◌then◌else◌}
use Rattle.colour_sorts.specs.declared.rules.Rule.{Rule}
use Rattle.colour_sorts.specs.declared.rules.Rule.TheVariants as rule
use Rattle.colour_sorts.specs.declared.sorts.Sort.{Sort, out-Sort}
use Rattle.colour_sorts.specs.declared.sorts.Sort.TheOpen as layer
use Rattle.colour_sorts.specs.Colours.{size}
use Rattle.net_model.specs.Ids.{constants_of}
use Rattle.net_model.specs.declared.nets.Arc.{Arc}
use Rattle.net_model.specs.declared.nets.Label.{Label}
use Rattle.net_model.specs.declared.nets.Label.TheVariants.{Absent, Count, Multiset}
use Rattle.net_model.specs.declared.nets.Net.{Net}
use Rattle.net_model.specs.declared.nets.Place.{Place}
use Rattle.net_model.specs.declared.nets.Transition.{Transition}
use Rattle.multiset_terms.specs.Context.{Context}
use Rattle.multiset_terms.specs.Values.{is_defined}
use Rattle.multiset_terms.specs.Weights.{gross_of, product, support_of}
use Rattle.net_nodes.specs.declared.nodes.End.{End}
use Rattle.net_nodes.specs.declared.nodes.End.TheVariants as end
use Rattle.net_nodes.specs.declared.nodes.ReferenceFault.{ReferenceFault}
use Rattle.net_nodes.specs.declared.nodes.ReferenceFault.TheVariants as reference
use Rattle.net_nodes.specs.Nodes.{end_named, first_broken, followed}
use Rattle.net_firing.specs.FileNets.{arcs_of, context_of, no_colours, sort_at_place, sort_of_place, sort_of_variable, variables_of}
use Rattle.net_typing.specs.declared.faults.LimitKind.TheVariants as limit
use Rattle.net_typing.specs.declared.faults.NetFault.{NetFault}
use Rattle.net_typing.specs.declared.faults.NetFault.TheVariants as fault
use Rattle.net_typing.specs.Rules.{Refusal, declaration_refusal, first_over, ill_typed, is_heavy, label_rule, or_else, place_refusal, too_heavy, transition_refusal}

-- references: the first whose chain of references breaks a rule
abbrev pub rule_of_reference : ReferenceFault → Rule
rule_of_reference reference.UnknownNode = rule.UnknownNode
rule_of_reference reference.Circle = rule.ReferenceCircle
rule_of_reference reference.OtherKind = rule.ReferenceKind

abbrev pub reference_id : Net → ℕ → List ℕ
reference_id net at = slice_index_or (map (λ r. r.id) net.references) at []

abbrev pub broken_reference : Net → Option (ℕ × ReferenceFault) → Refusal
broken_reference net None = None
broken_reference net (Some (at, why)) = Some (fault.IllTyped (reference_id net at) (rule_of_reference why))

abbrev pub reference_refusal : Net → Refusal
reference_refusal net = broken_reference net (first_broken net)

-- the transition and the place that an arc joins, and whether it leads to the transition
pub record Joined : Type 0 where
  pub transition : ℕ
  pub place : ℕ
  pub is_input : Bool

abbrev pub joined : End → End → Option Joined
joined (end.Place p) (end.Transition t) = Some (record { transition = t; place = p; is_input = true })
joined (end.Transition t) (end.Place p) = Some (record { transition = t; place = p; is_input = false })
joined _ _ = None

abbrev pub joined_from : Option End → Option End → Option Joined
joined_from (Some source) (Some target) = joined source target
joined_from _ _ = None

abbrev pub joined_by : Net → Arc → Option Joined
joined_by net a = joined_from (end_named net a.source) (end_named net a.target)

abbrev pub same_bool : Bool → Bool → Bool
same_bool true b = b
same_bool false true = false
same_bool false false = true

abbrev pub is_same_joined : Joined → Option Joined → Bool
is_same_joined j None = false
is_same_joined j (Some k) = nat_eq j.transition k.transition && nat_eq j.place k.place && same_bool j.is_input k.is_input

-- an arc: its source, its target, its sides, whether something is written at it, and the type of that; what isn't written is one dot
abbrev pub is_dot_layer : {A : Type 0} → layer.Sort-F A → Bool
is_dot_layer layer.Dot = true
is_dot_layer _ = false

abbrev pub is_dot : Sort → Bool
is_dot s = is_dot_layer (out-Sort s)

abbrev pub inscription_rule : Context → Sort → Label → Option Rule
inscription_rule ctx s Absent = if is_dot s then None else Some rule.NoInscription
inscription_rule ctx s label = label_rule ctx false s label

abbrev pub sides_rule : Context → (ℕ → Sort) → Label → Option Joined → Option Rule
sides_rule ctx sort_at label None = Some rule.SameSide
sides_rule ctx sort_at label (Some j) = inscription_rule ctx (sort_at j.place) label

abbrev pub ends_rule : Context → (ℕ → Sort) → Label → Option End → Option End → Option Rule
ends_rule ctx sort_at label (Some source) (Some target) = sides_rule ctx sort_at label (joined source target)
ends_rule ctx sort_at label _ _ = Some rule.UnknownNode

abbrev pub arc_rule : Net → Arc → Option Rule
arc_rule net a = ends_rule (context_of net) (sort_at_place net) a.label (end_named net a.source) (end_named net a.target)

-- how many elements an arc moves at most, and so many arcs between the same place and transition in the same direction
abbrev pub label_gross : Context → Label → ℕ
label_gross ctx Absent = 1
label_gross ctx (Count number) = number
label_gross ctx (Multiset t) = gross_of ctx t

abbrev pub gross_along : Net → Joined → Arc → ℕ
gross_along net j a = if is_same_joined j (joined_by net a) then label_gross (context_of net) a.label else 0

abbrev pub gross_between : Net → Option Joined → List Arc → ℕ
gross_between net None arcs = 0
gross_between net (Some j) arcs = sum_by (gross_along net j) arcs

abbrev pub is_overweight : Net → List Arc → Arc → Bool
is_overweight net earlier a = is_heavy (context_of net) a.label || nat_lt (2 ^ 63 - 1) (gross_between net (joined_by net a) (earlier ++ a ∷ []))

abbrev pub arc_refusal : Net → List Arc → Arc → Refusal
arc_refusal net earlier a = or_else (ill_typed a.id (arc_rule net a)) (too_heavy a.id (is_overweight net earlier a))

abbrev pub arcs_refusal : Net → List Arc → List Arc → Refusal
arcs_refusal net earlier [] = None
arcs_refusal net earlier (a ∷ more) = or_else (arc_refusal net earlier a) (arcs_refusal net (earlier ++ a ∷ []) more)

-- the sizes of the unfolded net: place instances, candidate bindings of all transitions, and entries, the bindings of each transition
-- times the supports of its arcs
abbrev pub colours_in : Net → Sort → ℕ
colours_in net s = size (constants_of net.sorts) s

abbrev pub place_instances : Net → ℕ
place_instances net = sum_by (λ p. colours_in net (sort_of_place net p)) net.places

abbrev pub bindings_of : Net → Transition → ℕ
bindings_of net t = product (map (λ v. colours_in net (sort_of_variable net v)) (variables_of (followed net) net t))

abbrev pub all_bindings : Net → ℕ
all_bindings net = sum_by (bindings_of net) net.transitions

abbrev pub label_support : Context → Label → ℕ
label_support ctx Absent = 1
label_support ctx (Count number) = 1
label_support ctx (Multiset t) = support_of ctx t

abbrev pub entries_of : Net → Transition → ℕ
entries_of net t = bindings_of net t * sum_by (λ a. label_support (context_of net) a.label) (arcs_of (followed net) net t)

abbrev pub all_entries : Net → ℕ
all_entries net = sum_by (entries_of net) net.transitions

abbrev pub limit_refusal : ℕ → ℕ → ℕ → Refusal
limit_refusal places bindings entries =
    if nat_lt (2 ^ 20) places then Some (fault.Limit limit.Places)
    else if nat_lt (2 ^ 22) bindings then Some (fault.Limit limit.Bindings)
    else if nat_lt (2 ^ 26) entries then Some (fault.Limit limit.Entries)
    else None

-- a place: whether its marking has a value
abbrev pub has_value : Context → Label → Bool
has_value ctx (Multiset t) = is_defined ctx t no_colours
has_value ctx label = true

abbrev pub marking_refusal : Context → Place → Refusal
marking_refusal ctx p = if has_value ctx p.marking then None else Some (fault.Negative p.id)

-- the first check that fails
abbrev pub net_refusal : Net → Refusal
net_refusal net =
    or_else (declaration_refusal net)
    (or_else (reference_refusal net)
    (or_else (first_over (place_refusal (context_of net)) net.places)
    (or_else (first_over (transition_refusal (context_of net)) net.transitions)
    (or_else (arcs_refusal net [] net.arcs)
    (or_else (limit_refusal (place_instances net) (all_bindings net) (all_entries net))
    (first_over (marking_refusal (context_of net)) net.places))))))

abbrev pub IsWellTyped : Net → Type 0
IsWellTyped net = net_refusal net ≡ None
