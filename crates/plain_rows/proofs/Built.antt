-- What the instances of a net and its nodes say of the net.
use Rattle.std.proofs.Common.{◌≡◌, ℕ, ◌+◌, ◌<◌, ◌^◌, inl, inr, List, [], ◌++◌, map, filter, length, get_or, Some, arith, refl, ap, subst, sym, ◌∙◌}
use Rattle.std.specs.Prelude.{All, Contains, sum_by, slice_get}
use Rattle.std.proofs.lemmas.List.{length-append, length-map, get_or-map, same_lists}
use Rattle.std.proofs.lemmas.List.Elements.{All-append, All-map, All-filter, Contains-get_or}
use Rattle.std.proofs.lemmas.List.FromFn.{length-map-range_with_len, get_or-map-range_with_len}
use Rattle.std.proofs.lemmas.List.Sums.{sum_by-le-sum_by}
use Rattle.std.proofs.lemmas.List.Sorted.{All-permutation, length_permutation}
use Rattle.std.proofs.lemmas.Option.{slice_get-get_or, slice_get_within, get_or_from_slice_get}
use Rattle.wide_sums.specs.declared.rows.Cell.{Cell}
use Rattle.wide_sums.specs.Cells.{IsRising, amount}
use Rattle.pt_net.specs.declared.instances.Instance.{Instance}
use Rattle.pt_net.specs.declared.instances.Side.{Side}
use Rattle.pt_net.specs.declared.instances.Side.TheVariants.{Pre, Post}
use Rattle.pt_net.specs.Instances.{origin_of, IsBefore}
use Rattle.pt_net.specs.Markings.{counts_of, IsInRange}
use Rattle.pt_net.specs.Systems.{IsSystem, system_of}
use Rattle.plain_model.specs.declared.nets.Place.{Place}
use Rattle.plain_model.specs.declared.nets.Arc.{Arc}
use Rattle.plain_model.specs.declared.nets.PlainNet.{PlainNet}
use Rattle.plain_model.specs.Plain.{IsPlainNet, IsId, LeadsBetween, AreDistinct, node_ids, place_ids}
use Rattle.plain_model.specs.Firing.{initial, total_weight}
use Rattle.plain_rows.specs.declared.entries.Entry.{Entry}
use Rattle.plain_rows.specs.Nodes.{AreNodes, IsFreshArc}
use Rattle.plain_rows.specs.Entries.{Ends, IsEntryOf, is_on, cell_of, cells_of, instance_of, HasRows, IsFillable, IsRearranged, AreBuilt}
use Rattle.plain_rows.specs.Rows.{IsInstanceOf, AreRowsOf}
use Rattle.plain_rows.proofs.Rows.{size_of, entry_at}
use Rattle.plain_rows.proofs.Ends.{held_in_order, arcs_in, arcs_out, entry_got, as_many_entries, place_within, transition_within, apart_from_rising}

contained : (ids : List (List ℕ)) (i : ℕ) (a : List ℕ) → slice_get ids i ≡ Some a → Contains ids a
contained ids i a got = subst (Contains ids) (get_or_from_slice_get ids i a a got) (Contains-get_or ids i a (slice_get_within ids i a got))

leads : (net : PlainNet) (arc : Arc) (side : Side) (p t : ℕ) → Ends net arc side p t → LeadsBetween net arc
leads net arc Pre p t ends = inl (contained (place_ids net) p arc.source ends.0, contained net.transitions t arc.target ends.1)
leads net arc Post p t ends = inr (contained net.transitions t arc.source ends.1, contained (place_ids net) p arc.target ends.0)

abbrev no_entry : Entry
no_entry = entry_at Pre 0 0 0

rising_rows : (net : PlainNet) (instances : List Instance) (built : AreBuilt net instances) (side : Side) (t : ℕ) → t < length net.transitions → IsRising (cells_of built.sorted side t)
rising_rows net instances built side t within =
    let none : Instance = instance_of [] 0 in
    let inside : t < length instances = let long = built.as_many in omega arith in
    let rows = subst HasRows (built.filled t none inside) (built.rows t none inside) in
    of side rows
  where
    of : (side : Side) → HasRows (instance_of built.sorted t) → IsRising (cells_of built.sorted side t)
    of Pre rows = rows.pre.rising
    of Post rows = rows.post.rising

pub is_plain : (net : PlainNet) (instances : List Instance) → IsId net.id → AreNodes net → AreBuilt net instances → IsPlainNet net
is_plain net instances id nodes built = record {
  net_id = id;
  ids = All-append IsId (place_ids net ++ net.transitions) (map (λ arc. arc.id) net.arcs)
      (All-append IsId (place_ids net) net.transitions
      (All-map IsId (λ place. place.id) net.places (λ k d within. (nodes.places k d within).id)) nodes.transitions)
      (All-map IsId (λ arc. arc.id) net.arcs (λ k d within. (nodes.arcs k d within).id));
  distinct = nodes.numbered.distinct;
  ends = λ k d within.
      let entry = get_or built.entries.entries k no_entry in
      let is : IsEntryOf net (get_or net.arcs k d) entry = entry_got net net.arcs built.entries.entries k d no_entry built.entries.each within in
      leads net (get_or net.arcs k d) entry.side entry.place entry.transition is.ends;
  apart = apart_from_rising net built.entries.entries built.sorted nodes.numbered.distinct built.entries.each built.entries.moved (rising_rows net instances built);
  markings = λ k d within. (nodes.places k d within).marking;
  weights = λ k d within. ((nodes.arcs k d within).positive, (nodes.arcs k d within).weight);
}

abbrev no_arc : Arc
no_arc = record { id = []; source = []; target = []; weight = 0 }

-- the numbers of the entries are in range
pub entries_in_range : (net : PlainNet) (sorted : List Entry) (n : ℕ) → AreNodes net → IsRearranged net sorted → n ≡ length net.transitions → All (IsFillable n) sorted
entries_in_range net sorted n nodes rearranged many =
    All-permutation (IsFillable n) rearranged.entries sorted rearranged.moved (λ k d within.
    let inside : k < length net.arcs = let long = as_many_entries net net.arcs rearranged.entries rearranged.each in omega arith in
    let entry = get_or rearranged.entries k d in
    let arc = get_or net.arcs k no_arc in
    let is : IsEntryOf net arc entry = entry_got net net.arcs rearranged.entries k no_arc d rearranged.each inside in
    let fresh : IsFreshArc arc = nodes.arcs k no_arc inside in
    let low = transition_within net arc entry.side entry.place entry.transition is.ends in
    let weight = is.weight in
    let positive = fresh.positive in
    let most = fresh.weight in
    record { transition = omega arith; positive = omega arith; weight = omega arith })

places_in_range : (net : PlainNet) (sorted : List Entry) → IsRearranged net sorted → All (λ e. e.place < length net.places) sorted
places_in_range net sorted rearranged =
    All-permutation (λ e. e.place < length net.places) rearranged.entries sorted rearranged.moved (λ k d within.
    let inside : k < length net.arcs = let long = as_many_entries net net.arcs rearranged.entries rearranged.each in omega arith in
    let entry = get_or rearranged.entries k d in
    let arc = get_or net.arcs k no_arc in
    let is : IsEntryOf net arc entry = entry_got net net.arcs rearranged.entries k no_arc d rearranged.each inside in
    let low = place_within net arc entry.side entry.place entry.transition is.ends in
    omega (arith, length-map net.places (λ place. place.id)))

cells_in_range : (net : PlainNet) (sorted : List Entry) (side : Side) (t : ℕ) → IsRearranged net sorted → IsInRange (length net.places) (cells_of sorted side t)
cells_in_range net sorted side t rearranged =
    All-map (λ c. c.at < length net.places) cell_of (filter (is_on side t) sorted)
    (All-filter (is_on side t) (λ e. e.place < length net.places) sorted (places_in_range net sorted rearranged))

few_nodes : (net : PlainNet) → AreNodes net → length net.places + length net.transitions + length net.arcs < 2 ^ 32
few_nodes net nodes =
    let few = nodes.numbered.few in
    let whole = length-append (place_ids net ++ net.transitions) (map (λ arc. arc.id) net.arcs) in
    let front = length-append (place_ids net) net.transitions in
    let places = length-map net.places (λ place. place.id) in
    let arcs = length-map net.arcs (λ arc. arc.id) in
    omega arith

cell_count : (net : PlainNet) (instances : List Instance) → AreBuilt net instances → sum_by size_of instances ≡ length net.arcs
cell_count net instances built =
    built.cells
    ∙ length_permutation built.entries.entries built.sorted built.entries.moved
    ∙ as_many_entries net net.arcs built.entries.entries built.entries.each

-- the instances and the initial marking are those of a net
pub is_system : (net : PlainNet) (instances : List Instance) → AreNodes net → AreBuilt net instances → IsSystem (system_of (initial net) instances)
is_system net instances nodes built =
    let few = few_nodes net nodes in
    let many = built.as_many in
    let cells = cell_count net instances built in
    let long : length (initial net) ≡ length net.places = length-map net.places (λ place. place.marking) in
    record {
      counts = All-map (λ k. k < 2 ^ 63) (λ place. place.marking) net.places (λ k d within. (nodes.places k d within).marking);
      places = omega arith;
      instances = omega arith;
      rising = λ i j d below within.
          let first : (get_or instances i d).transition ≡ i = ap (λ (t : Instance). t.transition) (built.filled i d (omega arith)) in
          let second : (get_or instances j d).transition ≡ j = ap (λ (t : Instance). t.transition) (built.filled j d within) in
          let is_before : IsBefore (origin_of (get_or instances i d)) (origin_of (get_or instances j d)) = record { transition = omega arith; binding = λ same. absurd (omega arith) } in
          is_before;
      inputs_in_range = λ k d within.
          subst (λ t. IsInRange (length (initial net)) t.pre) (sym (built.filled k d within))
          (subst (λ n. IsInRange n (cells_of built.sorted Pre k)) (sym long) (cells_in_range net built.sorted Pre k built.entries));
      outputs_in_range = λ k d within.
          subst (λ t. IsInRange (length (initial net)) t.post) (sym (built.filled k d within))
          (subst (λ n. IsInRange n (cells_of built.sorted Post k)) (sym long) (cells_in_range net built.sorted Post k built.entries));
      inputs = let part = sum_by-le-sum_by (λ (t : Instance). length t.pre) size_of instances (λ t. omega arith) in omega arith;
      outputs = let part = sum_by-le-sum_by (λ (t : Instance). length t.post) size_of instances (λ t. omega arith) in omega arith;
    }

abbrev no_place : Place
no_place = record { id = []; marking = 0 }

place_id : (net : PlainNet) (k : ℕ) → k < length net.places → slice_get (place_ids net) k ≡ Some (get_or net.places k no_place).id
place_id net k within =
    slice_get-get_or (place_ids net) k [] (let long = length-map net.places (λ place. place.id) in omega arith)
    ∙ ap Some (get_or-map (λ place. place.id) net.places k no_place [] within)

-- a row has at each place the weight between that place and the transition
pub row_in : (net : PlainNet) (sorted : List Entry) (k t : ℕ) (from to : List ℕ) → AreDistinct (node_ids net) → IsRearranged net sorted
    → slice_get (place_ids net) k ≡ Some from → slice_get net.transitions t ≡ Some to → amount k (cells_of sorted Pre t) ≡ total_weight net.arcs from to
row_in net sorted k t from to distinct rearranged at_k at_t =
    held_in_order (λ n. n) Pre t k rearranged.entries sorted rearranged.moved
    ∙ sym (arcs_in net net.arcs rearranged.entries k t from to distinct rearranged.each at_k at_t)

pub row_out : (net : PlainNet) (sorted : List Entry) (k t : ℕ) (from to : List ℕ) → AreDistinct (node_ids net) → IsRearranged net sorted
    → slice_get net.transitions t ≡ Some from → slice_get (place_ids net) k ≡ Some to → amount k (cells_of sorted Post t) ≡ total_weight net.arcs from to
row_out net sorted k t from to distinct rearranged at_t at_k =
    held_in_order (λ n. n) Post t k rearranged.entries sorted rearranged.moved
    ∙ sym (arcs_out net net.arcs rearranged.entries k t from to distinct rearranged.each at_t at_k)

-- the counts of all places, as one list
dense : (net : PlainNet) (row : List Cell) (weight : List ℕ → ℕ) → ((k : ℕ) (id : List ℕ) → slice_get (place_ids net) k ≡ Some id → amount k row ≡ weight id)
    → counts_of (length net.places) row ≡ map (λ place. weight place.id) net.places
dense net row weight each =
    let n = length net.places in
    let counts = length-map-range_with_len (λ p. amount p row) 0 n in
    same_lists (counts_of n row) (map (λ place. weight place.id) net.places) (counts ∙ sym (length-map net.places (λ place. weight place.id))) (λ k d within.
    let inside : k < n = omega arith in
    get_or-map-range_with_len (λ p. amount p row) 0 n k k d inside (omega arith)
    ∙ each k (get_or net.places k no_place).id (place_id net k inside)
    ∙ sym (get_or-map (λ place. weight place.id) net.places k no_place d inside))

pub are_rows : (net : PlainNet) (instances : List Instance) → AreNodes net → AreBuilt net instances → AreRowsOf net (system_of (initial net) instances)
are_rows net instances nodes built = record {
  initial = refl;
  as_many = built.as_many;
  each = λ number id got.
      let within : number < length instances = let low = slice_get_within net.transitions number id got in let many = built.as_many in omega arith in
      let none : Instance = record { transition = 0; binding = 0; pre = []; post = [] } in
      let instance : IsInstanceOf net number id (instance_of built.sorted number) = record {
        origin = refl;
        pre = dense net (cells_of built.sorted Pre number) (λ place. total_weight net.arcs place id)
            (λ k place at_k. row_in net built.sorted k number place id nodes.numbered.distinct built.entries at_k got);
        post = dense net (cells_of built.sorted Post number) (λ place. total_weight net.arcs id place)
            (λ k place at_k. row_out net built.sorted k number id place nodes.numbered.distinct built.entries got at_k);
      } in
      subst (IsInstanceOf net number id) (sym (built.filled number none within)) instance;
}
