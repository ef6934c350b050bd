-- Firing over the arcs of the file and firing over the rows reach the same markings.
use Rattle.std.proofs.Common.{◌≡◌, ℕ, zero, suc, ◌+◌, ◌-◌, ◌<◌, ◌≤◌, inl, inr, List, [], ◌∷◌, length, get_or, Some, arith, refl, ap, subst, sym, ◌∙◌}
use Rattle.std.specs.Prelude.{slice_get}
use Rattle.std.proofs.lemmas.Bool.{cases_lt}
use Rattle.std.proofs.lemmas.List.{length-map, get_or_past, ext_get_or}
use Rattle.std.proofs.lemmas.List.Elements.{Contains-get_or}
use Rattle.std.proofs.lemmas.List.FromFn.{length-map-range_with_len, get_or-map-range_with_len}
use Rattle.std.proofs.lemmas.Option.{slice_get-get_or}
use Rattle.wide_sums.specs.declared.rows.Cell.{Cell}
use Rattle.wide_sums.specs.Cells.{amount}
use Rattle.wide_sums.proofs.Amounts.{amount-none}
use Rattle.pt_net.specs.declared.instances.Instance.{Instance}
use Rattle.pt_net.specs.Markings.{counts_of, IsInRange}
use Rattle.pt_net.specs.Firing.{Fires as RowsFire}
use Rattle.pt_net.specs.Systems.{NetSystem, IsSystem, instance_at, Run as RowsRun}
use Rattle.plain_model.specs.declared.nets.PlainNet.{PlainNet}
use Rattle.plain_model.specs.Firing.{inputs, outputs, initial, Covers, moved, Fires, Run}
use Rattle.plain_rows.specs.Rows.{AreRowsOf, ReachTheSame}

-- a list covers another where it has at least as much at each position
covers_each : (marking needs : List ℕ) → Covers marking needs → (p : ℕ) → get_or needs p 0 ≤ get_or marking p 0
covers_each [] [] covers p = omega arith
covers_each (count ∷ marking) (need ∷ needs) covers zero = covers.0
covers_each (count ∷ marking) (need ∷ needs) covers (suc p) = covers_each marking needs covers.1 p
covers_each [] (need ∷ needs) covers p = absurd covers
covers_each (count ∷ marking) [] covers p = absurd covers

covers_from : (marking needs : List ℕ) → length needs ≡ length marking → ((p : ℕ) → get_or needs p 0 ≤ get_or marking p 0) → Covers marking needs
covers_from [] [] long each = tt
covers_from (count ∷ marking) (need ∷ needs) long each = (each 0, covers_from marking needs (omega arith) (λ p. each (suc p)))
covers_from [] (need ∷ needs) long each = absurd (omega arith)
covers_from (count ∷ marking) [] long each = absurd (omega arith)

length_moved : (marking takes puts : List ℕ) → length takes ≡ length marking → length puts ≡ length marking → length (moved marking takes puts) ≡ length marking
length_moved [] takes puts long long' = refl
length_moved (count ∷ marking) (take ∷ takes) (put ∷ puts) long long' = ap suc (length_moved marking takes puts (omega arith) (omega arith))
length_moved (count ∷ marking) [] puts long long' = absurd (omega arith)
length_moved (count ∷ marking) (take ∷ takes) [] long long' = absurd (omega arith)

moved_at : (marking takes puts : List ℕ) → length takes ≡ length marking → length puts ≡ length marking → (p : ℕ)
    → get_or (moved marking takes puts) p 0 ≡ get_or marking p 0 - get_or takes p 0 + get_or puts p 0
moved_at [] [] [] long long' p = omega arith
moved_at (count ∷ marking) (take ∷ takes) (put ∷ puts) long long' zero = refl
moved_at (count ∷ marking) (take ∷ takes) (put ∷ puts) long long' (suc p) = moved_at marking takes puts (omega arith) (omega arith) p
moved_at [] (take ∷ takes) puts long long' p = absurd (omega arith)
moved_at [] [] (put ∷ puts) long long' p = absurd (omega arith)
moved_at (count ∷ marking) [] puts long long' p = absurd (omega arith)
moved_at (count ∷ marking) (take ∷ takes) [] long long' p = absurd (omega arith)

-- a row as a list of counts
count_at : (n : ℕ) (row : List Cell) → IsInRange n row → (p : ℕ) → get_or (counts_of n row) p 0 ≡ amount p row
count_at n row in_range p =
    elim (cases_lt p n) [
      | inl within ↦ get_or-map-range_with_len (λ q. amount q row) 0 n p p 0 within (omega arith)
      | inr past ↦
          let long = length-map-range_with_len (λ q. amount q row) 0 n in
          get_or_past (counts_of n row) p 0 (omega arith)
          ∙ sym (amount-none p row (λ k d within. let low : (get_or row k d).at < n = in_range k d within in omega arith))
    ]

-- one firing, from the lists of counts to the rows and back
to_rows : (old new takes puts : List ℕ) (t : Instance) → length takes ≡ length old → length puts ≡ length old
    → ((p : ℕ) → get_or takes p 0 ≡ amount p t.pre) → ((p : ℕ) → get_or puts p 0 ≡ amount p t.post)
    → Covers old takes → new ≡ moved old takes puts → RowsFire old t new
to_rows old new takes puts t long long' taken put covers moves = record {
  enabled = λ p. let low = covers_each old takes covers p in let is = taken p in omega arith;
  as_long = ap length moves ∙ length_moved old takes puts long long';
  moved = λ p.
      let now = ap (λ (counts : List ℕ). get_or counts p 0) moves ∙ moved_at old takes puts long long' p in
      let low = covers_each old takes covers p in
      let less = taken p in
      let more = put p in
      omega arith;
}

from_rows : (old new takes puts : List ℕ) (t : Instance) → length takes ≡ length old → length puts ≡ length old
    → ((p : ℕ) → get_or takes p 0 ≡ amount p t.pre) → ((p : ℕ) → get_or puts p 0 ≡ amount p t.post)
    → RowsFire old t new → Covers old takes × (new ≡ moved old takes puts)
from_rows old new takes puts t long long' taken put fires =
    let low : (p : ℕ) → get_or takes p 0 ≤ get_or old p 0 = λ p. let is = taken p in let enough = fires.enabled p in omega arith in (
      covers_from old takes long low,
      ext_get_or 0 new (moved old takes puts) (fires.as_long ∙ sym (length_moved old takes puts long long')) (λ p within.
          let now = moved_at old takes puts long long' p in
          let enough = low p in
          let less = taken p in
          let more = put p in
          let moves = fires.moved p in
          omega arith),
    )

-- the rows of an instance are what its transition takes and puts
record Agree (net : PlainNet) (id : List ℕ) (t : Instance) : Type 0 where
  taken : (p : ℕ) → get_or (inputs net id) p 0 ≡ amount p t.pre
  put : (p : ℕ) → get_or (outputs net id) p 0 ≡ amount p t.post

agree : (net : PlainNet) (system : NetSystem) → AreRowsOf net system → IsSystem system → (i : ℕ) (id : List ℕ) → i < length system.instances → slice_get net.transitions i ≡ Some id
    → Agree net id (instance_at system i)
agree net system rows is_system i id within got =
    let none : Instance = record { transition = 0; binding = 0; pre = []; post = [] } in
    let instance = rows.each i id got in
    let long : length system.initial ≡ length net.places = ap length rows.initial ∙ length-map net.places (λ place. place.marking) in
    let pre = subst (λ n. IsInRange n (instance_at system i).pre) long (is_system.inputs_in_range i none within) in
    let post = subst (λ n. IsInRange n (instance_at system i).post) long (is_system.outputs_in_range i none within) in
    record {
      taken = λ p. ap (λ (counts : List ℕ). get_or counts p 0) (sym instance.pre) ∙ count_at (length net.places) (instance_at system i).pre pre p;
      put = λ p. ap (λ (counts : List ℕ). get_or counts p 0) (sym instance.post) ∙ count_at (length net.places) (instance_at system i).post post p;
    }

length_inputs : (net : PlainNet) (id old : List ℕ) → length old ≡ length net.places → length (inputs net id) ≡ length old
length_inputs net id old long = length-map net.places _ ∙ sym long

length_outputs : (net : PlainNet) (id old : List ℕ) → length old ≡ length net.places → length (outputs net id) ≡ length old
length_outputs net id old long = length-map net.places _ ∙ sym long

forward : (net : PlainNet) (system : NetSystem) → AreRowsOf net system → IsSystem system → (ids : List (List ℕ)) (old new : List ℕ) → length old ≡ length net.places
    → Run net old ids new → (is : List ℕ) × RowsRun system old is new
forward net system rows is_system [] old new long run = ([], run)
forward net system rows is_system (id ∷ ids) old new long run =
    let i = run.0.0 in
    let inside : i < length net.transitions = run.0.1 in
    let many = rows.as_many in
    let within : i < length system.instances = omega arith in
    let got : slice_get net.transitions i ≡ Some id = slice_get-get_or net.transitions i id inside ∙ ap Some run.0.2 in
    let mid = run.1.0 in
    let fires : Fires net old id mid = run.1.1.0 in
    let same : Agree net id (instance_at system i) = agree net system rows is_system i id within got in
    let step = to_rows old mid (inputs net id) (outputs net id) (instance_at system i) (length_inputs net id old long) (length_outputs net id old long) same.taken same.put fires.enabled fires.moves in
    let rest = forward net system rows is_system ids mid new (step.as_long ∙ long) run.1.1.1 in
    (i ∷ rest.0, (within, (mid, (step, rest.1))))

backward : (net : PlainNet) (system : NetSystem) → AreRowsOf net system → IsSystem system → (is : List ℕ) (old new : List ℕ) → length old ≡ length net.places
    → RowsRun system old is new → (ids : List (List ℕ)) × Run net old ids new
backward net system rows is_system [] old new long run = ([], run)
backward net system rows is_system (i ∷ is) old new long run =
    let within : i < length system.instances = run.0 in
    let many = rows.as_many in
    let inside : i < length net.transitions = omega arith in
    let id = get_or net.transitions i [] in
    let got : slice_get net.transitions i ≡ Some id = slice_get-get_or net.transitions i [] inside in
    let mid = run.1.0 in
    let fires : RowsFire old (instance_at system i) mid = run.1.1.0 in
    let same : Agree net id (instance_at system i) = agree net system rows is_system i id within got in
    let step = from_rows old mid (inputs net id) (outputs net id) (instance_at system i) (length_inputs net id old long) (length_outputs net id old long) same.taken same.put fires in
    let moves : Fires net old id mid = record { enabled = step.0; moves = step.1 } in
    let rest = backward net system rows is_system is mid new (fires.as_long ∙ long) run.1.1.1 in
    (id ∷ rest.0, (Contains-get_or net.transitions i [] inside, (mid, (moves, rest.1))))

pub reach_the_same : (net : PlainNet) (system : NetSystem) → AreRowsOf net system → IsSystem system → ReachTheSame net system
reach_the_same net system rows is_system = λ marking.
    let long : length (initial net) ≡ length net.places = length-map net.places (λ place. place.marking) in (
      (λ reach. let run = forward net system rows is_system reach.0 (initial net) marking long reach.1 in
          (run.0, subst (λ start. RowsRun system start run.0 marking) (sym rows.initial) run.1)),
      (λ reach. backward net system rows is_system reach.0 (initial net) marking long (subst (λ start. RowsRun system start reach.0 marking) rows.initial reach.1)),
    )
