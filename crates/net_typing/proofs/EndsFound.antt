-- Where the ids of a net's nodes lead is inside the net.
use Rattle.std.proofs.Common.{◌≡◌, ◌∙◌, ◌<◌, ◌+◌, refl, ap, sym, subst, ℕ, zero, suc, List, [], ◌∷◌, length, map, slice_get, Option, Some, None, Result, Ok, Err}
use Rattle.std.specs.Option.{option_map, option_or}
use Rattle.std.specs.Result.{result_unwrap_or}
use Rattle.std.proofs.lemmas.List.{length-map}
use Rattle.std.proofs.lemmas.Option.{slice_get-map}
use Rattle.name_tables.specs.Numbering.{number_in}
use Rattle.net_model.specs.declared.nets.Net.{Net}
use Rattle.net_model.specs.declared.nets.Reference.{Reference}
use Rattle.net_model.specs.declared.nets.RefKind.{RefKind}
use Rattle.net_model.specs.declared.nets.RefKind.TheVariants as refers
use Rattle.net_nodes.specs.declared.nodes.End.{End}
use Rattle.net_nodes.specs.declared.nodes.End.TheVariants as end
use Rattle.net_nodes.specs.declared.nodes.Node.{Node}
use Rattle.net_nodes.specs.declared.nodes.Node.TheVariants as node
use Rattle.net_nodes.specs.declared.nodes.ReferenceFault.{ReferenceFault}
use Rattle.net_nodes.specs.declared.nodes.ReferenceFault.TheVariants as fault
use Rattle.net_nodes.specs.Nodes.{NodeIds, broken_at, end_at, end_named, end_of, end_within, ends_of, fault_in, first_broken, first_broken_from, ids_of_nodes, kind_at, led, named_among, node_named, of_kind, reference_fault, target_at}
use Rattle.net_nodes.proofs.Named.{number-within}
use Rattle.net_nodes.proofs.Chains.{of_kind-ok}

abbrev IsNodeInside : NodeIds → Option Node → Type 0
IsNodeInside ids None = Unit {0}
IsNodeInside ids (Some (node.Place at)) = at < length ids.places
IsNodeInside ids (Some (node.Transition at)) = at < length ids.transitions
IsNodeInside ids (Some (node.Reference at)) = at < length ids.references

abbrev pub IsEndInside : Net → End → Type 0
IsEndInside net (end.Place at) = at < length net.places
IsEndInside net (end.Transition at) = at < length net.transitions

abbrev IsWithin : List (List ℕ) → Option ℕ → Type 0
IsWithin names None = Unit {0}
IsWithin names (Some at) = at < length names

number-inside : (names : List (List ℕ)) (id : List ℕ) (n : Option ℕ) → number_in names id ≡ n → IsWithin names n
number-inside names id None e = tt
number-inside names id (Some at) e = number-within names id at e

found-inside : (ids : NodeIds) (p t r : Option ℕ) → IsWithin ids.places p → IsWithin ids.transitions t → IsWithin ids.references r
    → IsNodeInside ids (option_or (option_map node.Place p) (option_or (option_map node.Transition t) (option_map node.Reference r)))
found-inside ids (Some at) t r h i j = h
found-inside ids None (Some at) r h i j = i
found-inside ids None None (Some at) h i j = j
found-inside ids None None None h i j = tt

node-inside : (ids : NodeIds) (id : List ℕ) → IsNodeInside ids (named_among ids id)
node-inside ids id =
    found-inside ids (number_in ids.places id) (number_in ids.transitions id) (number_in ids.references id)
    (number-inside ids.places id (number_in ids.places id) refl) (number-inside ids.transitions id (number_in ids.transitions id) refl) (number-inside ids.references id (number_in ids.references id) refl)

-- the places and transitions themselves
place-inside : (net : Net) (at : ℕ) → at < length (ids_of_nodes net).places → at < length net.places
place-inside net at h = subst (λ n. at < n) (length-map net.places (λ p. p.id)) h

transition-inside : (net : Net) (at : ℕ) → at < length (ids_of_nodes net).transitions → at < length net.transitions
transition-inside net at h = subst (λ n. at < n) (length-map net.transitions (λ t. t.id)) h

-- along a chain
abbrev answer : End → Result End ReferenceFault
answer x = Ok x

same-end : (net : Net) (x y : End) → answer x ≡ Ok y → IsEndInside net x → IsEndInside net y
same-end net x y e h = let same : x ≡ y = cc in subst (IsEndInside net) same h

some-end : (net : Net) (x y : End) → Some x ≡ Some y → IsEndInside net x → IsEndInside net y
some-end net x y e h = let same : x ≡ y = cc in subst (IsEndInside net) same h

led-inside : (net : Net) (kind : RefKind) (kinds : ℕ → RefKind) (onward : ℕ → Result End ReferenceFault) (n : Option Node) (e : End) → IsNodeInside (ids_of_nodes net) n
    → ((at : ℕ) (there : End) → onward at ≡ Ok there → IsEndInside net there) → led kind kinds onward n ≡ Ok e → IsEndInside net e
led-inside net kind kinds onward None e h on is = absurd (cc)
led-inside net kind kinds onward (Some (node.Place at)) e h on is = same-end net (end.Place at) e (of_kind-ok kind refers.Place (Ok (end.Place at)) e is) (place-inside net at h)
led-inside net kind kinds onward (Some (node.Transition at)) e h on is = same-end net (end.Transition at) e (of_kind-ok kind refers.Transition (Ok (end.Transition at)) e is) (transition-inside net at h)
led-inside net kind kinds onward (Some (node.Reference at)) e h on is = on at e (of_kind-ok kind (kinds at) (onward at) e is)

chain-inside : (net : Net) (kind : RefKind) (steps : ℕ) (id : List ℕ) (e : End) → end_within net kind steps id ≡ Ok e → IsEndInside net e
chain-inside net kind zero id e is = led-inside net kind (kind_at net) (λ _. Err fault.Circle) (node_named net id) e (node-inside (ids_of_nodes net) id) (λ at there h. absurd (cc)) is
chain-inside net kind (suc steps) id e is =
    led-inside net kind (kind_at net) (λ at. end_within net kind steps (target_at net at)) (node_named net id) e (node-inside (ids_of_nodes net) id)
    (λ at there h. chain-inside net kind steps (target_at net at) there h) is

-- of a reference that isn't broken
whole-inside : (net : Net) (kind : RefKind) (id : List ℕ) (steps : ℕ) (found : Result End ReferenceFault) → end_within net kind steps id ≡ found → fault_in found ≡ None → IsEndInside net (result_unwrap_or found (end.Place 0))
whole-inside net kind id steps (Ok there) e h = chain-inside net kind steps id there e
whole-inside net kind id steps (Err why) e h = absurd (cc)

unbroken-first : (at : ℕ) (why : Option ReferenceFault) (later : Option (ℕ × ReferenceFault)) → broken_at at why later ≡ None → (why ≡ None) × (later ≡ None)
unbroken-first at None later h = (refl, h)
unbroken-first at (Some why) later h = absurd (cc)

unbroken-at : (net : Net) (n : ℕ) (rs : List Reference) (i : ℕ) (r : Reference) → first_broken_from net n rs ≡ None → slice_get rs i ≡ Some r → reference_fault net r ≡ None
unbroken-at net n [] i r h is = absurd (cc)
unbroken-at net n (x ∷ xs) zero r h is = let same : x ≡ r = cc in subst (λ y. reference_fault net y ≡ None) same (unbroken-first n (reference_fault net x) (first_broken_from net (n + 1) xs) h).0
unbroken-at net n (x ∷ xs) (suc i) r h is = unbroken-at net (n + 1) xs i r (unbroken-first n (reference_fault net x) (first_broken_from net (n + 1) xs) h).1 is

mapped : (f : Reference → End) (x : Option Reference) (e : End) → option_map f x ≡ Some e → (r : Reference) × (x ≡ Some r) × (f r ≡ e)
mapped f None e h = absurd (cc)
mapped f (Some r) e h = (r, refl, cc)

reference-inside : (net : Net) (at : ℕ) (e : End) → first_broken net ≡ None → slice_get (ends_of net) at ≡ Some e → IsEndInside net e
reference-inside net at e whole is =
    let found = mapped (λ r. result_unwrap_or (end_of net r) (end.Place 0)) (slice_get net.references at) e (sym (slice_get-map (λ r. result_unwrap_or (end_of net r) (end.Place 0)) net.references at) ∙ is) in
    subst (IsEndInside net) found.2 (whole-inside net found.0.kind found.0.target (length net.references) (end_of net found.0) refl (unbroken-at net 0 net.references at found.0 whole found.1))

named-inside : (net : Net) (n : Option Node) (e : End) → first_broken net ≡ None → IsNodeInside (ids_of_nodes net) n → end_at (ends_of net) n ≡ Some e → IsEndInside net e
named-inside net None e whole h is = absurd (cc)
named-inside net (Some (node.Place at)) e whole h is = some-end net (end.Place at) e is (place-inside net at h)
named-inside net (Some (node.Transition at)) e whole h is = some-end net (end.Transition at) e is (transition-inside net at h)
named-inside net (Some (node.Reference at)) e whole h is = reference-inside net at e whole is

-- the place or transition for which an id stands
pub end-inside : (net : Net) (id : List ℕ) (e : End) → first_broken net ≡ None → end_named net id ≡ Some e → IsEndInside net e
end-inside net id e whole is = named-inside net (node_named net id) e whole (node-inside (ids_of_nodes net) id) is
