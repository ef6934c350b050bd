-- An arc by its ends and its place.
use Rattle.std.proofs.Common.{◌≡◌, ◌∙◌, ◌<◌, ap, sym, subst, ℕ, List, length, map, get_or, [], Option, Some, None, Ok, Err, true, false}
use Rattle.std.proofs.lemmas.List.{get_or-map}
use Rattle.colour_sorts.specs.declared.sorts.Sort.{Sort}
use Rattle.colour_sorts.specs.declared.sorts.Sort.TheVariants as sort
use Rattle.colour_sorts.specs.declared.rules.Rule.{Rule}
use Rattle.net_model.specs.declared.nets.Arc.{Arc}
use Rattle.net_model.specs.declared.nets.Label.TheVariants as label
use Rattle.net_model.specs.declared.nets.Net.{Net}
use Rattle.net_model.specs.declared.sorts.SortTerm.TheVariants as term
use Rattle.net_model.specs.declared.nets.Place.{Place}
use Rattle.net_firing.specs.FileNets.{context_of, sort_at_place, sort_of_place}
use Rattle.net_nodes.specs.declared.nodes.End.{End}
use Rattle.net_nodes.specs.declared.nodes.End.TheVariants as end
use Rattle.net_nodes.specs.Nodes.{Nodes, end_among, end_named, first_broken, nodes_of}
use Rattle.net_typing.specs.declared.arcs.Ends.{Ends}
use Rattle.net_typing.specs.declared.faults.Unfit.{Unfit}
use Rattle.net_typing.specs.declared.faults.Unfit.TheVariants as unfit
use Rattle.net_typing.specs.declared.inscribed.Inscribed.{Inscribed}
use Rattle.net_typing.specs.declared.places.PlaceTyping.{PlaceTyping}
use Rattle.net_typing.specs.declared.scope.Scope.{Scope}
use Rattle.net_typing.specs.Refusals.{Joined, arc_rule, ends_rule, inscription_rule, joined, joined_by, joined_from, sides_rule}
use Rattle.net_typing.specs.Standing.{IsInscribed, IsPlaceTyping, shared}
use Rattle.net_typing.specs.TypedArcs.{IsArcAnswer, IsMovedAnswer, IsReady, joined_of}
use Rattle.net_typing.proofs.EndsFound.{IsEndInside, end-inside}

-- what the table tells is what the net's ids say
pub found-end : (net : Net) (table : Nodes) (id : List ℕ) (e : End) → table ≡ nodes_of net → Some e ≡ end_among table id → end_named net id ≡ Some e
found-end net table id e same is = sym (is ∙ ap (λ t. end_among t id) same)

-- both ends of what is joined are inside the net
pub record AreInside (net : Net) (j : Joined) : Type 0 where
  pub place : j.place < length net.places
  pub transition : j.transition < length net.transitions

some-joined : (net : Net) (j k : Joined) → Some j ≡ Some k → AreInside net j → AreInside net k
some-joined net j k e h = let same : j ≡ k = cc in subst (AreInside net) same h

pub joined-inside : (net : Net) (s t : End) (j : Joined) → IsEndInside net s → IsEndInside net t → joined s t ≡ Some j → AreInside net j
joined-inside net (end.Place p) (end.Transition t) j h i is = some-joined net (record { transition = t; place = p; is_input = true }) j is (record { place = h; transition = i })
joined-inside net (end.Transition t) (end.Place p) j h i is = some-joined net (record { transition = t; place = p; is_input = false }) j is (record { place = i; transition = h })
joined-inside net (end.Place p) (end.Place q) j h i is = absurd (cc)
joined-inside net (end.Transition t) (end.Transition u) j h i is = absurd (cc)

pub ends-inside : (net : Net) (a : Arc) (s t : End) (j : Joined) → first_broken net ≡ None → end_named net a.source ≡ Some s → end_named net a.target ≡ Some t → joined s t ≡ Some j → AreInside net j
ends-inside net a s t j whole from to is = joined-inside net s t j (end-inside net a.source s whole from) (end-inside net a.target t whole to) is

-- the rule that an arc breaks whose ends are joined
pub arc-joined : (net : Net) (a : Arc) (s t : End) (j : Joined) → end_named net a.source ≡ Some s → end_named net a.target ≡ Some t → joined s t ≡ Some j
    → arc_rule net a ≡ inscription_rule (context_of net) (sort_at_place net j.place) a.label
arc-joined net a s t j from to is =
    ap (λ x. ends_rule (context_of net) (sort_at_place net) a.label x (end_named net a.target)) from
    ∙ ap (ends_rule (context_of net) (sort_at_place net) a.label (Some s)) to
    ∙ ap (sides_rule (context_of net) (sort_at_place net) a.label) is

pub joined-ends : (net : Net) (a : Arc) (s t : End) (j : Joined) → end_named net a.source ≡ Some s → end_named net a.target ≡ Some t → joined s t ≡ Some j → joined_by net a ≡ Some j
joined-ends net a s t j from to is = ap (λ x. joined_from x (end_named net a.target)) from ∙ ap (joined_from (Some s)) to ∙ is

-- the place of a number is typed
pub place-typed : (net : Net) (scope : Scope) (table : Nodes) (places : List PlaceTyping) (k : ℕ) (p : Place) (d : PlaceTyping) → IsReady net scope table places → k < length net.places
    → IsPlaceTyping (context_of net) scope.domains (get_or net.places k p) (get_or places k d)
place-typed net scope table places k p d ready lt = ready.typed.each k p d lt

pub place-sort : (net : Net) (scope : Scope) (table : Nodes) (places : List PlaceTyping) (k : ℕ) (p : Place) (d : PlaceTyping) → IsReady net scope table places → k < length net.places
    → shared scope.domains (get_or places k d).sort ≡ sort_at_place net k
place-sort net scope table places k p d ready lt = (place-typed net scope table places k p d ready lt).sort.is ∙ sym (get_or-map (sort_of_place net) net.places k p sort.Dot lt)

-- what is known of an arc whose ends are joined
pub record IsMet (net : Net) (a : Arc) (j : Joined) : Type 0 where
  pub ends : joined_by net a ≡ Some j
  pub rule : arc_rule net a ≡ inscription_rule (context_of net) (sort_at_place net j.place) a.label
  pub inside : AreInside net j

pub met : (net : Net) (table : Nodes) (a : Arc) (s t : End) (j : Joined) (from to : List ℕ) → table ≡ nodes_of net → first_broken net ≡ None → Some s ≡ end_among table from → from ≡ a.source
    → Some t ≡ end_among table to → to ≡ a.target → Some j ≡ joined s t → IsMet net a j
met net table a s t j from to same whole source is target it ends =
    let first = found-end net table a.source s same (source ∙ ap (end_among table) is) in
    let second = found-end net table a.target t same (target ∙ ap (end_among table) it) in
    record {
      ends = joined-ends net a s t j first second (sym ends);
      rule = arc-joined net a s t j first second (sym ends);
      inside = ends-inside net a s t j whole first second (sym ends);
    }

-- an arc that is refused for what it moves
pub arc-unfit : (net : Net) (a : Arc) (j : Joined) (s : Sort) (why : Unfit) → IsMet net a j → s ≡ sort_at_place net j.place → IsMovedAnswer (context_of net) s a.label (Err why) → IsArcAnswer net a (Err why)
arc-unfit net a j s (unfit.Broken broken) known same is = known.rule ∙ ap (λ x. inscription_rule (context_of net) x a.label) (sym same) ∙ is
arc-unfit net a j s unfit.Heavy known same is = (known.rule ∙ ap (λ x. inscription_rule (context_of net) x a.label) (sym same) ∙ is.0, is.1)
arc-unfit net a j s unfit.Memory known same is = tt

pub arc-fits : (net : Net) (a : Arc) (ends : Ends) (s : Sort) (moves : Inscribed) → IsMet net a (joined_of ends) → s ≡ sort_at_place net ends.place → IsMovedAnswer (context_of net) s a.label (Ok moves)
    → IsArcAnswer net a (Ok (record { ends = ends; moves = moves }))
arc-fits net a ends s moves known same is = (
  record {
    ends = known.ends;
    place = known.inside.place;
    transition = known.inside.transition;
    moves = subst (λ x. IsInscribed (context_of net) false 1 x a.label moves) same is.0;
  },
  known.rule ∙ ap (λ x. inscription_rule (context_of net) x a.label) (sym same) ∙ is.1,
)

abbrev pub no_place : Place
no_place = record { id = []; sort = term.Dot; marking = label.Absent }
