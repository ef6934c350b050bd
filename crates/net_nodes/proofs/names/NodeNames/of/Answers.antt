use Rattle.std.proofs.Common.{◌≡◌, List, ℕ, sym, ap, subst, ◌++◌, ◌∙◌, map}
use Rattle.std.specs.List.{IsDistinct}
use Rattle.std.specs.Str.{bytes_eq}
use Rattle.net_model.specs.Ids.{HasOwnIds}
use Rattle.net_model.specs.declared.nets.Net.{Net}
use Rattle.net_nodes.proofs.Added.{distinct-front}
use Rattle.net_nodes.proofs.names.NodeNames.of.Goals as goal

abbrev places : Net → List (List ℕ)
places net = map (λ p. p.id) net.places

abbrev transitions : Net → List (List ℕ)
transitions net = map (λ t. t.id) net.transitions

abbrev references : Net → List (List ℕ)
references net = map (λ r. r.id) net.references

up-to-references : (net : Net) → HasOwnIds net → IsDistinct bytes_eq ((places net ++ transitions net) ++ references net)
up-to-references net own = distinct-front ((places net ++ transitions net) ++ references net) (map (λ a. a.id) net.arcs) own.nodes

up-to-transitions : (net : Net) → HasOwnIds net → IsDistinct bytes_eq (places net ++ transitions net)
up-to-transitions net own = distinct-front (places net ++ transitions net) (references net) (up-to-references net own)

pub add_places-requires-clause-apart : goal.add_places-requires-clause-apart
add_places-requires-clause-apart c =
    let net = c.args.net.now in
    subst (IsDistinct bytes_eq) (sym (ap (λ ids. ids ++ map (λ p. p.id) c.as_slice.result.now) c.new-ids.ensures ∙ ap (map (λ p. p.id)) c.as_slice.ensures))
    (distinct-front (places net) (transitions net) (up-to-transitions net c.requires))

pub add_transitions-requires-clause-apart : goal.add_transitions-requires-clause-apart
add_transitions-requires-clause-apart c =
    let net = c.args.net.now in
    let before : c.add_places.new.ids ≡ places net = c.in_ok-add_places.ensures ∙ ap (λ ids. ids ++ map (λ p. p.id) c.as_slice.result.now) c.new-ids.ensures ∙ ap (map (λ p. p.id)) c.as_slice.ensures in
    subst (IsDistinct bytes_eq) (sym (ap (λ ids. ids ++ map (λ t. t.id) c.as_slice-2.result.now) before ∙ ap (λ ts. places net ++ map (λ t. t.id) ts) c.as_slice-2.ensures))
    (up-to-transitions net c.requires)

pub add_references-requires-clause-apart : goal.add_references-requires-clause-apart
add_references-requires-clause-apart c =
    let net = c.args.net.now in
    let first : c.add_places.new.ids ≡ places net = c.in_ok-add_places.ensures ∙ ap (λ ids. ids ++ map (λ p. p.id) c.as_slice.result.now) c.new-ids.ensures ∙ ap (map (λ p. p.id)) c.as_slice.ensures in
    let before : c.add_transitions.new.ids ≡ places net ++ transitions net =
    c.in_ok-add_transitions.ensures ∙ ap (λ ids. ids ++ map (λ t. t.id) c.as_slice-2.result.now) first ∙ ap (λ ts. places net ++ map (λ t. t.id) ts) c.as_slice-2.ensures in
    subst (IsDistinct bytes_eq) (sym (ap (λ ids. ids ++ map (λ r. r.id) c.as_slice-3.result.now) before ∙ ap (λ rs. (places net ++ transitions net) ++ map (λ r. r.id) rs) c.as_slice-3.ensures))
    (up-to-references net c.requires)
