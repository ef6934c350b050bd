-- What the typed arcs of a net stand for.
use Rattle.std.specs.Prelude.{◌≡◌, ℕ, ◌<◌, ◌≤◌, ◌^◌, Bool, true, false, List, length, slice_index_or, Option, None, Some, Result, Ok, Err}
use Rattle.colour_sorts.specs.declared.sorts.Sort.{Sort}
use Rattle.net_model.specs.declared.nets.Arc.{Arc}
use Rattle.net_model.specs.declared.nets.Label.{Label}
use Rattle.net_model.specs.declared.nets.Net.{Net}
use Rattle.multiset_terms.specs.Context.{Context}
use Rattle.multiset_terms.specs.Parts.{IsScope}
use Rattle.multiset_terms.specs.Usable.{IsUsable}
use Rattle.net_firing.specs.FileNets.{context_of, sort_at_place}
use Rattle.net_nodes.specs.Nodes.{Nodes, first_broken, nodes_of}
use Rattle.net_typing.specs.declared.arcs.ArcTyping.{ArcTyping}
use Rattle.net_typing.specs.declared.arcs.Ends.{Ends}
use Rattle.net_typing.specs.declared.arcs.Gathered.{Gathered}
use Rattle.net_typing.specs.declared.faults.NetFault.{NetFault}
use Rattle.net_typing.specs.declared.faults.Unfit.{Unfit}
use Rattle.net_typing.specs.declared.faults.Unfit.TheVariants as unfit
use Rattle.net_typing.specs.declared.inscribed.Inscribed.{Inscribed}
use Rattle.net_typing.specs.declared.places.PlaceTyping.{PlaceTyping}
use Rattle.net_typing.specs.declared.scope.Scope.{Scope}
use Rattle.net_typing.specs.Refusals.{Joined, arc_rule, inscription_rule, joined_by}
use Rattle.net_typing.specs.Rules.{IsRefusal, Refusal, ill_typed, is_heavy, or_else, too_heavy}
use Rattle.net_typing.specs.Standing.{AreTyped, AreTypedBelow, IsInscribed, IsPlaceTyping}

-- what is known of a net before its arcs are typed: what its terms stand over, where its ids lead, and its places
pub record IsReady (net : Net) (scope : Scope) (table : Nodes) (places : List PlaceTyping) : Type 0 where
  pub over : IsScope (context_of net) scope.domains scope.variables
  pub usable : IsUsable scope.domains scope.variables
  pub nodes : table ≡ nodes_of net
  pub unbroken : first_broken net ≡ None
  pub few : length net.places < 2 ^ 32
  pub typed : AreTyped (IsPlaceTyping (context_of net) scope.domains) net.places places

-- the ends of an arc
abbrev pub joined_of : Ends → Joined
joined_of ends = record { transition = ends.transition; place = ends.place; is_input = ends.is_input }

abbrev pub some_joined : Option Ends → Option Joined
some_joined None = None
some_joined (Some ends) = Some (joined_of ends)

-- what is answered of what an arc moves over the sort of its place
abbrev pub IsMovedAnswer : Context → Sort → Label → Result Inscribed Unfit → Type 0
IsMovedAnswer ctx s label (Ok it) = IsInscribed ctx false 1 s label it × (inscription_rule ctx s label ≡ None)
IsMovedAnswer ctx s label (Err (unfit.Broken broken)) = inscription_rule ctx s label ≡ Some broken
IsMovedAnswer ctx s label (Err unfit.Heavy) = (inscription_rule ctx s label ≡ None) × (is_heavy ctx label ≡ true)
IsMovedAnswer ctx s label (Err unfit.Memory) = Unit {0}

-- an arc with its ends and what it moves
pub record IsArcTyping (net : Net) (a : Arc) (it : ArcTyping) : Type 0 where
  pub ends : joined_by net a ≡ Some (joined_of it.ends)
  pub place : it.ends.place < length net.places
  pub transition : it.ends.transition < length net.transitions
  pub moves : IsInscribed (context_of net) false 1 (sort_at_place net it.ends.place) a.label it.moves

-- what is answered of an arc by itself: it typed, or why it is refused
abbrev pub IsArcAnswer : Net → Arc → Result ArcTyping Unfit → Type 0
IsArcAnswer net a (Ok it) = IsArcTyping net a it × (arc_rule net a ≡ None)
IsArcAnswer net a (Err (unfit.Broken broken)) = arc_rule net a ≡ Some broken
IsArcAnswer net a (Err unfit.Heavy) = (arc_rule net a ≡ None) × (is_heavy (context_of net) a.label ≡ true)
IsArcAnswer net a (Err unfit.Memory) = Unit {0}

-- why an arc is refused by itself, without those in front of it
abbrev pub own_refusal : Net → Arc → Refusal
own_refusal net a = or_else (ill_typed a.id (arc_rule net a)) (too_heavy a.id (is_heavy (context_of net) a.label))

-- arcs are typed as far as none is refused by itself, and what stops there
abbrev pub IsStop : Net → List Arc → ℕ → Option NetFault → Type 0
IsStop net arcs count None = count ≡ length arcs
IsStop net arcs count (Some why) = (count < length arcs) × ((d : Arc) → IsRefusal (own_refusal net (slice_index_or arcs count d)) why)

pub record IsTypedSoFar (net : Net) (arcs : List Arc) (count : ℕ) (typed : List ArcTyping) : Type 0 where
  pub each : AreTypedBelow (IsArcTyping net) count arcs typed
  pub sound : (i : ℕ) (d : Arc) → i < count → own_refusal net (slice_index_or arcs i d) ≡ None

pub record IsGathered (net : Net) (arcs : List Arc) (found : Gathered) : Type 0 where
  pub within : length found.typed.items ≤ length arcs
  pub typed : IsTypedSoFar net arcs (length found.typed.items) found.typed.items
  pub stop : IsStop net arcs (length found.typed.items) found.stop
