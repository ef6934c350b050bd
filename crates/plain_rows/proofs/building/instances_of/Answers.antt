use Rattle.std.proofs.Common.{◌≡◌, ◌<◌, ◌^◌, ◌∙◌, ◌++◌, ℕ, List, length, length-append, map, drop, arith, ap, subst, sym}
use Rattle.plain_model.specs.declared.nets.Arc.{Arc}
use Rattle.plain_model.specs.Plain.{place_ids}
use Rattle.std.proofs.lemmas.List.{take_at}
use Rattle.plain_rows.specs.Entries.{AreBuilt}
use Rattle.plain_rows.proofs.Built.{entries_in_range}
use Rattle.plain_rows.proofs.building.instances_of.Goals as goal

few_of : (places transitions arcs : List (List ℕ)) → length (places ++ transitions ++ arcs) < 2 ^ 32 → length transitions < 2 ^ 32
few_of places transitions arcs few = omega (arith, length-append (places ++ transitions) arcs, length-append places transitions)

pub count_of-count-requires : goal.count_of-count-requires
count_of-count-requires c =
    let net = c.args.net.now in
    subst (λ (ts : List (List ℕ)). length ts < 2 ^ 32) (sym c.as_slice.ensures)
    (few_of (place_ids net) net.transitions (map (λ (arc : Arc). arc.id) net.arcs) c.in_ok-entries.ensures.nodes.numbered.few)

pub fill-requires-clause-entries : goal.fill-requires-clause-entries
fill-requires-clause-entries c =
    rw (c.as_slice-2.ensures.value, c.as_mut_slice.ensures.value)
    (entries_in_range c.args.net.now c.in_ok-entries.entries.items (length c.in_ok-instances.instances.items) c.in_ok-entries.ensures.nodes c.in_ok-entries.ensures.entries
    (c.in_ok-instances.ensures.len ∙ c.count_of-count.ensures ∙ ap length c.as_slice.ensures))

pub returns-clause-instances : goal.returns-clause-instances
returns-clause-instances c =
    let instances = c.fill.new.instances in
    let long : length instances ≡ length c.in_ok-instances.instances.items = omega arith in
    let room : length instances ≡ c.in_ok-instances.instances.len = omega (arith, c.in_ok-instances.instances.ok.0) in
    let back = take_at instances (drop (length instances) c.in_ok-instances.instances.items) c.in_ok-instances.instances.len room in
    subst (AreBuilt c.args.net.now) (sym back) (record {
      sorted = c.in_ok-entries.entries.items;
      entries = c.in_ok-entries.ensures.entries;
      as_many = long ∙ c.in_ok-instances.ensures.len ∙ c.count_of-count.ensures ∙ ap length c.as_slice.ensures;
      filled = rw c.as_slice-2.ensures.value at c.in_ok-fill.ensures.filled;
      rows = c.in_ok-fill.ensures.rows;
      cells = rw c.as_slice-2.ensures.value at c.in_ok-fill.ensures.cells;
    })
