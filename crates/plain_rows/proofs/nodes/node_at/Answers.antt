use Rattle.std.proofs.Common.{◌≡◌, map, length, arith}
use Rattle.std.proofs.lemmas.List.{length-map}
use Rattle.plain_model.specs.Plain.{place_ids}
use Rattle.plain_rows.proofs.Distinct.{named_first, named_behind}
use Rattle.plain_rows.proofs.nodes.node_at.Goals as goal

pub returns-then-at-places : goal.returns-then-at-places
returns-then-at-places c = λ id found.
    let net = c.args.net.now in
    named_first (place_ids net) net.transitions (map (λ arc. arc.id) net.arcs) id c.args.number found
    (omega (arith, length-map net.places (λ place. place.id)))

pub returns-then-at-places-2 : goal.returns-then-at-places-2
returns-then-at-places-2 c = λ id found.
    let net = c.args.net.now in
    let places : c.len-places.result ≡ length (place_ids net) = omega (arith, length-map net.places (λ place. place.id)) in
    rw places (named_behind (place_ids net) net.transitions (map (λ arc. arc.id) net.arcs) id c.args.number found
    (omega arith) (omega arith))
