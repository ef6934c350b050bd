-- The texts of nodes aren't empty, so an element with some has children.
use Rattle.std.proofs.Common.{◌≡◌, ℕ, zero, suc, ◌<◌, Bool, true, false, cond, List, [], ◌∷◌, ◌++◌, length, flat_map, codes, ◌==◌, not, MatchBool, IsTrue, ◌↔◌, refl, arith, length-append}
use Rattle.std.proofs.lemmas.Bool.{false≢true}
use Rattle.plain_model.specs.declared.nets.Place.{Place}
use Rattle.plain_model.specs.declared.nets.Arc.{Arc}
use Rattle.plain_model.specs.declared.nets.PlainNet.{PlainNet}
use Rattle.plain_text.specs.Markup.{element, empty_element, leaf_text, parent_element}
use Rattle.doc_model.proofs.TextLaws.{text_of-leaf}
use Rattle.plain_text.specs.NetParts.{arc_attributes, arc_text, id_attribute, inscription_text, marking_text, nodes_text, place_text, transition_text}
use Rattle.plain_text.specs.PropertyParts.{listed_place}

pub element-some : (name attributes children : List ℕ) → 0 < length children → element name attributes children ≡ parent_element name attributes children
element-some name attributes [] some = absurd (omega (arith, some))
element-some name attributes (c ∷ cs) some = refl

some_front : (xs ys : List ℕ) → 0 < length xs → 0 < length (xs ++ ys)
some_front xs ys some = omega (arith, length-append xs ys)

some_back : (xs ys : List ℕ) → 0 < length ys → 0 < length (xs ++ ys)
some_back xs ys some = omega (arith, length-append xs ys)

either : (b : Bool) (x y : List ℕ) → 0 < length x → 0 < length y → 0 < length (cond b x y)
either true x y some _ = some
either false x y _ some = some

pub flat_map-some : {X : Type 0} (f : X → List ℕ) (xs : List X) → ((x : X) → 0 < length (f x)) → 0 < length xs → 0 < length (flat_map f xs)
flat_map-some f [] each some = absurd (omega (arith, some))
flat_map-some f (x ∷ xs) each some = some_front (f x) (flat_map f xs) (each x)

not_empty : {X : Type 0} (xs : List X) → (xs ≡ [] → ⊥) → 0 < length xs
not_empty [] some = absurd (some refl)
not_empty (x ∷ xs) some = omega arith

pub some_length : (n : ℕ) → false ≡ (n == 0) → 0 < n
some_length zero none = absurd (false≢true none)
some_length (suc n) _ = omega arith

pub listed_place-some : (id : List ℕ) → 0 < length (listed_place id)
unfolding listed_place leaf_text
listed_place-some id = rw (text_of-leaf (codes "place") id) (omega arith)

place_text-some : (place : Place) → 0 < length (place_text place)
unfolding place_text
place_text-some place =
    either (place.marking == 0) (empty_element (codes "place") (id_attribute place.id))
    (parent_element (codes "place") (id_attribute place.id) (marking_text place.marking)) (omega arith) (omega arith)

transition_text-some : (id : List ℕ) → 0 < length (transition_text id)
unfolding transition_text
transition_text-some id = omega arith

arc_text-some : (arc : Arc) → 0 < length (arc_text arc)
unfolding arc_text
arc_text-some arc =
    either (arc.weight == 1) (empty_element (codes "arc") (arc_attributes arc))
    (parent_element (codes "arc") (arc_attributes arc) (inscription_text arc.weight)) (omega arith) (omega arith)

pub places_show : (net : PlainNet) → (net.places ≡ [] → ⊥) → 0 < length (nodes_text net)
unfolding nodes_text
places_show net some =
    let places = flat_map place_text net.places in
    let transitions = flat_map transition_text net.transitions in
    some_front (places ++ transitions) (flat_map arc_text net.arcs) (some_front places transitions (flat_map-some place_text net.places place_text-some (not_empty net.places some)))

pub transitions_show : (net : PlainNet) → (net.transitions ≡ [] → ⊥) → 0 < length (nodes_text net)
unfolding nodes_text
transitions_show net some =
    let places = flat_map place_text net.places in
    let transitions = flat_map transition_text net.transitions in
    some_front (places ++ transitions) (flat_map arc_text net.arcs) (some_back places transitions (flat_map-some transition_text net.transitions transition_text-some (not_empty net.transitions some)))

arcs_show : (net : PlainNet) → (net.arcs ≡ [] → ⊥) → 0 < length (nodes_text net)
unfolding nodes_text
arcs_show net some =
    some_back (flat_map place_text net.places ++ flat_map transition_text net.transitions) (flat_map arc_text net.arcs) (flat_map-some arc_text net.arcs arc_text-some (not_empty net.arcs some))

none_show : (net : PlainNet) → net.places ≡ [] → net.transitions ≡ [] → net.arcs ≡ [] → nodes_text net ≡ []
unfolding nodes_text
none_show net no_places no_transitions no_arcs = rw (no_places, no_transitions, no_arcs) refl

pub arcs_decide : (net : PlainNet) (empty : Bool) → net.places ≡ [] → net.transitions ≡ [] → IsTrue empty ↔ (net.arcs ≡ []) → MatchBool (not empty) (0 < length (nodes_text net)) (nodes_text net ≡ [])
arcs_decide net true no_places no_transitions h = none_show net no_places no_transitions (h.0 refl)
arcs_decide net false no_places no_transitions h = arcs_show net (λ none. false≢true (h.1 none))
