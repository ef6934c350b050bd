-- The references of a net by names and by numbers.
use Rattle.std.proofs.Common.{◌≡◌, ℕ, zero, suc, ◌+◌, ◌<◌, List, [], ◌∷◌, length, get_or, refl, sym, ap, subst, ◌∙◌, arith, None, Some, Err}
use Rattle.std.specs.Prelude.{Option, Result}
use Rattle.std.specs.Option.{option_map, option_or}
use Rattle.std.specs.Result.{result_unwrap_or}
use Rattle.std.proofs.lemmas.List.{ext_get_or, get_or-map, length-map}
use Rattle.name_tables.specs.Numbering.{number_in}
use Rattle.net_model.specs.declared.nets.Net.{Net}
use Rattle.net_model.specs.declared.nets.Reference.{Reference}
use Rattle.net_model.specs.declared.nets.RefKind.{RefKind}
use Rattle.net_model.specs.declared.nets.RefKind.TheVariants as refers
use Rattle.net_nodes.specs.declared.links.Link.{Link}
use Rattle.net_nodes.specs.declared.nodes.Node.{Node}
use Rattle.net_nodes.specs.declared.nodes.Node.TheVariants as node
use Rattle.net_nodes.specs.declared.nodes.End.{End}
use Rattle.net_nodes.specs.declared.nodes.End.TheVariants as end
use Rattle.net_nodes.specs.declared.nodes.NodeFault.{NodeFault}
use Rattle.net_nodes.specs.declared.nodes.NodeFault.TheVariants as refusal
use Rattle.net_nodes.specs.declared.nodes.ReferenceFault.{ReferenceFault}
use Rattle.net_nodes.specs.declared.nodes.ReferenceFault.TheVariants as fault
use Rattle.net_nodes.specs.Nodes.{IsRefused, NodeIds, Nodes, broken_at, end_of, end_within, ends_of, fault_in, first_broken, first_broken_from, ids_of_nodes, kind_at, led, named_among, node_named, nodes_of, of_kind, reference_fault, target_at}
use Rattle.net_nodes.specs.Links.{AreEnds, AreInside, IsFirstBroken, IsInside, IsRefusal, end_by, link_end, link_kind, link_of, link_target, links_of, no_link}
use Rattle.net_nodes.proofs.Named.{number-within}

-- a named node is one of those that are there
named-inside : (ids : NodeIds) (id : List ℕ) → IsInside (length ids.references) (named_among ids id)
named-inside ids id = by (number_in ids.places id) (number_in ids.transitions id) (number_in ids.references id) (number-within ids.references id)
  where
    by : (x y z : Option ℕ) → ((n : ℕ) → z ≡ Some n → n < length ids.references)
        → IsInside (length ids.references) (option_or (option_map node.Place x) (option_or (option_map node.Transition y) (option_map node.Reference z)))
    by (Some n) y z within = tt
    by None (Some n) z within = tt
    by None None (Some n) within = within n refl
    by None None None within = tt

abbrev pub none : Reference
none = record { id = []; kind = refers.Place; target = [] }

link-at : (ids : NodeIds) (references : List Reference) (at : ℕ) → at < length references → get_or (links_of ids references) at no_link ≡ link_of ids (get_or references at none)
link-at ids references at within = get_or-map (link_of ids) references at none no_link within

pub links-inside : (net : Net) → AreInside (links_of (ids_of_nodes net) net.references)
links-inside net at within =
    let ids = ids_of_nodes net in
    let n = length-map net.references (link_of ids) in
    let m = length-map net.references (λ r. r.id) in
    subst (λ many. IsInside many (link_target (links_of ids net.references) at)) (m ∙ sym n)
    (subst (λ link. IsInside (length ids.references) link.target) (sym (link-at ids net.references at (omega (arith, within, n)))) (named-inside ids (get_or net.references at none).target))

led-alike : (kind : RefKind) (kinds others : ℕ → RefKind) (f g : ℕ → Result End ReferenceFault) (t : Option Node) → ((at : ℕ) → t ≡ Some (node.Reference at) → (kinds at ≡ others at) × (f at ≡ g at))
    → led kind kinds f t ≡ led kind others g t
led-alike kind kinds others f g None alike = refl
led-alike kind kinds others f g (Some (node.Place at)) alike = refl
led-alike kind kinds others f g (Some (node.Transition at)) alike = refl
led-alike kind kinds others f g (Some (node.Reference at)) alike = ap (λ k. of_kind kind k (f at)) (alike at refl).0 ∙ ap (of_kind kind (others at)) (alike at refl).1

abbrev pub net_links : Net → List Link
net_links net = links_of (ids_of_nodes net) net.references

inside-net : (net : Net) (id : List ℕ) (at : ℕ) → node_named net id ≡ Some (node.Reference at) → at < length net.references
inside-net net id at e = let h = subst (IsInside (length (ids_of_nodes net).references)) e (named-inside (ids_of_nodes net) id) in let m = length-map net.references (λ r. r.id) in omega (arith, h, m)

kind-same : (net : Net) (at : ℕ) → at < length net.references → kind_at net at ≡ link_kind (net_links net) at
kind-same net at within = get_or-map (λ r. r.kind) net.references at none refers.Place within ∙ ap (λ link. link.kind) (sym (link-at (ids_of_nodes net) net.references at within))

target-same : (net : Net) (at : ℕ) → at < length net.references → node_named net (target_at net at) ≡ link_target (net_links net) at
target-same net at within =
    ap (node_named net) (get_or-map (λ r. r.target) net.references at none [] within) ∙ ap (λ link. link.target) (sym (link-at (ids_of_nodes net) net.references at within))

within-same : (net : Net) (kind : RefKind) (steps : ℕ) (id : List ℕ) → end_within net kind steps id ≡ end_by (net_links net) kind steps (node_named net id)
within-same net kind zero id =
    led-alike kind (kind_at net) (link_kind (net_links net)) (λ _. Err fault.Circle) (λ _. Err fault.Circle) (node_named net id) (λ at e. (kind-same net at (inside-net net id at e), refl))
within-same net kind (suc steps) id =
    led-alike kind (kind_at net) (link_kind (net_links net)) (λ at. end_within net kind steps (target_at net at)) (λ at. end_by (net_links net) kind steps (link_target (net_links net) at)) (node_named net id)
    (λ at e. (
      kind-same net at (inside-net net id at e),
      within-same net kind steps (target_at net at) ∙ ap (end_by (net_links net) kind steps) (target-same net at (inside-net net id at e)),
    ))

-- a reference leads by names where it leads by numbers
pub end-same : (net : Net) (at : ℕ) → at < length net.references → end_of net (get_or net.references at none) ≡ link_end (net_links net) at
end-same net at within =
    within-same net (get_or net.references at none).kind (length net.references) (get_or net.references at none).target
    ∙ ap (λ n. end_by (net_links net) (get_or net.references at none).kind n (node_named net (get_or net.references at none).target)) (sym (length-map net.references (link_of (ids_of_nodes net))))
    ∙ ap (λ link. end_by (net_links net) link.kind (length (net_links net)) link.target) (sym (link-at (ids_of_nodes net) net.references at within))

abbrev pub nodes-with : NodeIds → List End → Nodes
nodes-with names ends = record { ids = names; ends = ends }

-- the ends of all references
pub ends-same : (net : Net) (ends : List End) → AreEnds (net_links net) (length (net_links net)) ends → ends ≡ ends_of net
ends-same net ends are =
    let n = length-map net.references (link_of (ids_of_nodes net)) in
    let m = length-map net.references (λ r. result_unwrap_or (end_of net r) (end.Place 0)) in
    ext_get_or (end.Place 0) ends (ends_of net) (are.many ∙ n ∙ sym m) (λ k within. by k (let l = are.many in omega (arith, within, l, n)))
  where
    by : (k : ℕ) → k < length net.references → get_or ends k (end.Place 0) ≡ get_or (ends_of net) k (end.Place 0)
    by k within =
        let n = length-map net.references (link_of (ids_of_nodes net)) in
        sym (get_or-map (λ r. result_unwrap_or (end_of net r) (end.Place 0)) net.references k none (end.Place 0) within
        ∙ ap (λ x. result_unwrap_or x (end.Place 0)) (end-same net k within ∙ are.each k (end.Place 0) (omega (arith, within, n))))

pub nodes-same : (net : Net) (names : NodeIds) (ends : List End) → names ≡ ids_of_nodes net → AreEnds (net_links net) (length (net_links net)) ends → nodes-with names ends ≡ nodes_of net
nodes-same net names ends is are = ap (λ n. nodes-with n ends) is ∙ ap (nodes-with (ids_of_nodes net)) (ends-same net ends are)

unbroken-from : (net : Net) (at : ℕ) (references : List Reference) → ((k : ℕ) → k < length references → reference_fault net (get_or references k none) ≡ None) → first_broken_from net at references ≡ None
unbroken-from net at [] all = refl
unbroken-from net at (r ∷ more) all =
    ap (λ o. broken_at at o (first_broken_from net (at + 1) more)) (all 0 (omega arith))
    ∙ unbroken-from net (at + 1) more (λ k within. all (suc k) (omega (arith, within)))

broken-from : (net : Net) (at : ℕ) (references : List Reference) (k : ℕ) (broken : ReferenceFault) → ((j : ℕ) → j < k → reference_fault net (get_or references j none) ≡ None)
    → k < length references → reference_fault net (get_or references k none) ≡ Some broken → first_broken_from net at references ≡ Some (at + k, broken)
broken-from net at [] k broken before within is = absurd (omega (arith, within))
broken-from net at (r ∷ more) zero broken before within is =
    ap (λ o. broken_at at o (first_broken_from net (at + 1) more)) is ∙ ap (λ n. Some (n, broken)) (let e : at ≡ at + 0 = omega arith in e)
broken-from net at (r ∷ more) (suc k) broken before within is =
    ap (λ o. broken_at at o (first_broken_from net (at + 1) more)) (before 0 (omega arith))
    ∙ broken-from net (at + 1) more k broken (λ j less. before (suc j) (omega (arith, less))) (omega (arith, within)) is
    ∙ ap (λ n. Some (n, broken)) (let e : at + 1 + k ≡ at + suc k = omega arith in e)

pub unbroken : (net : Net) (ends : List End) → AreEnds (net_links net) (length (net_links net)) ends → first_broken net ≡ None
unbroken net ends are =
    unbroken-from net 0 net.references (λ k within. ap fault_in (end-same net k within ∙ are.each k (end.Place 0) (let n = length-map net.references (link_of (ids_of_nodes net)) in omega (arith, within, n))))

pub broken : (net : Net) (at : ℕ) (fault : ReferenceFault) → IsFirstBroken (net_links net) at fault → first_broken net ≡ Some (at, fault)
broken net at fault is =
    broken-from net 0 net.references at fault
    (λ k less. ap fault_in (end-same net k (omega (arith, less, within)) ∙ (is.before k less).1))
    within
    (ap fault_in (end-same net at within ∙ is.is))
    ∙ ap (λ n. Some (n, fault)) (let e : 0 + at ≡ at = omega arith in e)
  where
    within : at < length net.references
    within = let n = length-map net.references (link_of (ids_of_nodes net)) in let h = is.within in omega (arith, h, n)

pub refused : (net : Net) (answer : NodeFault) → IsRefusal (net_links net) answer → IsRefused net answer
refused net (refusal.Broken at fault) is = broken net at fault is
refused net refusal.Memory is = tt
