-- Rows that grow by one cell after the other.
use Rattle.std.proofs.Common.{◌≡◌, ◌≢◌, ℕ, ◌+◌, ◌-◌, ◌<◌, ◌^◌, Bool, true, false, cond, ◌&&◌, nat_eq, inl, inr, List, [], ◌∷◌, ◌++◌, map, filter, length, take, get_or, set, arith, refl, ap, subst, sym, ◌∙◌}
use Rattle.std.specs.Prelude.{All, sum_by}
use Rattle.std.proofs.lemmas.Bool.{cases_eq, cases_lt}
use Rattle.std.proofs.lemmas.Bool.Decides.{nat_tests}
use Rattle.std.proofs.lemmas.List.{append-nil, length_push, get_or_default, map-append, take_more, get_or-set_same, get_or-set_other, length-set}
use Rattle.std.proofs.lemmas.List.Elements.{filter-append, All-push}
use Rattle.std.proofs.lemmas.List.Quantifiers.{all_pairs_push}
use Rattle.std.proofs.lemmas.List.Sums.{sum_by-set, sum_by-le}
use Rattle.wide_sums.specs.declared.rows.Cell.{Cell}
use Rattle.wide_sums.specs.Cells.{IsRow}
use Rattle.pt_net.specs.declared.instances.Instance.{Instance}
use Rattle.pt_net.specs.declared.instances.Side.{Side}
use Rattle.pt_net.specs.declared.instances.Side.TheVariants.{Pre, Post}
use Rattle.plain_model.specs.declared.nets.Arc.{Arc}
use Rattle.plain_model.specs.declared.nets.PlainNet.{PlainNet}
use Rattle.plain_rows.specs.declared.entries.Entry.{Entry}
use Rattle.plain_rows.specs.Entries.{IsEntryOf, AreEntriesOf, is_same_side, is_on, cell_of, cells_of, instance_of, AreInstances, with_cell, HasRows}

-- a row with one more cell, above its last place
pub row_push : (cells : List Cell) (cell : Cell) → IsRow cells → All (λ c. c.at < cell.at) cells → 0 < cell.count → cell.count < 2 ^ 63 → IsRow (cells ++ cell ∷ [])
row_push cells cell row above positive within = record {
  rising = all_pairs_push (λ a b. a.at < b.at) cells cell row.rising above;
  counted = All-push (λ c. (0 < c.count) × (c.count < 2 ^ 63)) cells cell row.counted (positive, within);
}

-- where the last place of a row is below, all are
pub below_last : (cells : List Cell) (at : ℕ) (last : Cell) → IsRow cells → last ≡ get_or cells (length cells - 1) last → last.at < at → All (λ c. c.at < at) cells
below_last cells at last row is low = λ k d within.
    let end = get_or_default cells (length cells - 1) d last (omega arith) in
    let own : (get_or cells (length cells - 1) d).at ≡ last.at = ap (λ (c : Cell). c.at) (end ∙ sym is) in
    elim (cases_lt k (length cells - 1)) [
      | inl before ↦ let rises : (get_or cells k d).at < (get_or cells (length cells - 1) d).at = row.rising k (length cells - 1) d before (omega arith) in omega arith
      | inr behind ↦
          let here : k ≡ length cells - 1 = omega arith in
          let same = ap (λ i. (get_or cells i d).at) here in
          omega arith
    ]

-- one more arc and its entry
pub entries_push : (net : PlainNet) (arcs : List Arc) (entries : List Entry) (arc : Arc) (entry : Entry) → AreEntriesOf net arcs entries → IsEntryOf net arc entry → AreEntriesOf net (arcs ++ arc ∷ []) (entries ++ entry ∷ [])
entries_push net [] [] arc entry all here = (here, tt)
entries_push net (a ∷ arcs) (e ∷ entries) arc entry all here = (all.0, entries_push net arcs entries arc entry all.1 here)
entries_push net [] (e ∷ entries) arc entry all here = absurd all
entries_push net (a ∷ arcs) [] arc entry all here = absurd all

pub entries_more : (net : PlainNet) (arcs : List Arc) (entries : List Entry) (i : ℕ) (arc : Arc) (entry : Entry) → i < length arcs → arc ≡ get_or arcs i arc → AreEntriesOf net (take i arcs) entries → IsEntryOf net arc entry → AreEntriesOf net (take (i + 1) arcs) (entries ++ entry ∷ [])
entries_more net arcs entries i arc entry within is all here =
    let more : take (i + 1) arcs ≡ take i arcs ++ arc ∷ [] = take_more arcs i arc within ∙ ap (λ (a : Arc). take i arcs ++ a ∷ []) (sym is) in
    rw more (entries_push net (take i arcs) entries arc entry all here)

-- the cells of one more entry
on_one : (b : Bool) (entry : Entry) → map cell_of (cond b (entry ∷ []) []) ≡ cond b (cell_of entry ∷ []) []
on_one true entry = refl
on_one false entry = refl

cells_push : (entries : List Entry) (entry : Entry) (side : Side) (t : ℕ) → cells_of (entries ++ entry ∷ []) side t ≡ cells_of entries side t ++ cond (is_on side t entry) (cell_of entry ∷ []) []
cells_push entries entry side t =
    ap (map cell_of) (filter-append (is_on side t) entries (entry ∷ []))
    ∙ map-append cell_of (filter (is_on side t) entries) (filter (is_on side t) (entry ∷ []))
    ∙ ap (λ (cells : List Cell). cells_of entries side t ++ cells) (on_one (is_on side t entry) entry)

cells_on : (entries : List Entry) (entry : Entry) (side : Side) (t : ℕ) → is_on side t entry ≡ true → cells_of (entries ++ entry ∷ []) side t ≡ cells_of entries side t ++ cell_of entry ∷ []
cells_on entries entry side t on = cells_push entries entry side t ∙ ap (λ (b : Bool). cells_of entries side t ++ cond b (cell_of entry ∷ []) []) on

cells_off : (entries : List Entry) (entry : Entry) (side : Side) (t : ℕ) → is_on side t entry ≡ false → cells_of (entries ++ entry ∷ []) side t ≡ cells_of entries side t
cells_off entries entry side t off =
    cells_push entries entry side t
    ∙ ap (λ (b : Bool). cells_of entries side t ++ cond b (cell_of entry ∷ []) []) off
    ∙ append-nil (cells_of entries side t)

and_false : (b : Bool) → (b && false) ≡ false
and_false true = refl
and_false false = refl

-- the instance of a transition, made of its rows
abbrev made : ℕ → List Cell → List Cell → Instance
made t pre post = record { transition = t; binding = 0; pre = pre; post = post }

same_instance : (t : ℕ) (pre pre' post post' : List Cell) → pre ≡ pre' → post ≡ post' → made t pre post ≡ made t pre' post'
same_instance t pre pre' post post' a b = ap (λ (r : List Cell). made t r post) a ∙ ap (made t pre') b

abbrev pub entry_at : Side → ℕ → ℕ → ℕ → Entry
entry_at side t place weight = record { side = side; transition = t; place = place; weight = weight }

-- one more entry puts its cell at the end of its row, and leaves the other instances
instance_same : (entries : List Entry) (side : Side) (t place weight : ℕ)
    → with_cell side (cell_of (entry_at side t place weight)) (instance_of entries t) ≡ instance_of (entries ++ entry_at side t place weight ∷ []) t
instance_same entries Pre t place weight =
    let here : nat_eq t t ≡ true = grind (arith, nat_tests) in
    sym (same_instance t _ _ _ _ (cells_on entries (entry_at Pre t place weight) Pre t here) (cells_off entries (entry_at Pre t place weight) Post t refl))
instance_same entries Post t place weight =
    let here : nat_eq t t ≡ true = grind (arith, nat_tests) in
    sym (same_instance t _ _ _ _ (cells_off entries (entry_at Post t place weight) Pre t refl) (cells_on entries (entry_at Post t place weight) Post t here))

instance_other : (entries : List Entry) (entry : Entry) (t : ℕ) → entry.transition ≢ t → instance_of (entries ++ entry ∷ []) t ≡ instance_of entries t
instance_other entries entry t away =
    let off : nat_eq entry.transition t ≡ false = grind (arith, nat_tests) in
    let none = λ (side : Side). ap (λ (b : Bool). is_same_side entry.side side && b) off ∙ and_false (is_same_side entry.side side) in
    same_instance t _ _ _ _ (cells_off entries entry Pre t (none Pre)) (cells_off entries entry Post t (none Post))

instances_push : (entries : List Entry) (entry : Entry) (instances : List Instance) (old new : Instance)
    → entry.transition < length instances → new ≡ with_cell entry.side (cell_of entry) (get_or instances entry.transition old)
    → AreInstances entries instances → AreInstances (entries ++ entry ∷ []) (set instances entry.transition new)
instances_push entries entry instances old new within grown filled = λ t d inside.
    let low : t < length instances = omega (arith, length-set instances entry.transition new) in
    elim (cases_eq entry.transition t) [
      | inl here ↦
          let known = filled entry.transition old within in
          subst (λ (n : ℕ). get_or (set instances entry.transition new) n d ≡ instance_of (entries ++ entry ∷ []) n) here
          (get_or-set_same instances entry.transition new d within
          ∙ grown
          ∙ ap (with_cell entry.side (cell_of entry)) known
          ∙ instance_same entries entry.side entry.transition entry.place entry.weight)
      | inr away ↦
          get_or-set_other instances entry.transition t new d (λ same. away (sym same))
          ∙ filled t d low
          ∙ sym (instance_other entries entry t away)
    ]

pub instances_more : (entries : List Entry) (i : ℕ) (d : Entry) (instances : List Instance) (old new : Instance)
    → i < length entries → (get_or entries i d).transition < length instances
    → new ≡ with_cell (get_or entries i d).side (cell_of (get_or entries i d)) (get_or instances (get_or entries i d).transition old)
    → AreInstances (take i entries) instances → AreInstances (take (i + 1) entries) (set instances (get_or entries i d).transition new)
instances_more entries i d instances old new within inside grown filled =
    rw (take_more entries i d within) (instances_push (take i entries) (get_or entries i d) instances old new inside grown filled)

-- one more cell is counted
abbrev pub size_of : Instance → ℕ
size_of t = length t.pre + length t.post

size_push : (side : Side) (cell : Cell) (t : Instance) → size_of (with_cell side cell t) ≡ size_of t + 1
size_push Pre cell t = omega (arith, length_push t.pre cell)
size_push Post cell t = omega (arith, length_push t.post cell)

pub sizes_more : (instances : List Instance) (at i : ℕ) (side : Side) (cell : Cell) (old new : Instance)
    → at < length instances → new ≡ with_cell side cell (get_or instances at old)
    → sum_by size_of instances ≡ i → sum_by size_of (set instances at new) ≡ i + 1
sizes_more instances at i side cell old new within grown sum =
    let one = ap size_of grown ∙ size_push side cell (get_or instances at old) in
    omega (arith, sum_by-set size_of instances at new old within)

-- at the start no row has a cell
pub empty_rows : (instances : List Instance) → AreInstances [] instances → All HasRows instances
empty_rows instances empty = λ k d within. subst HasRows (sym (empty k d within)) (record {
  pre = record { rising = λ i j e below inside. absurd (omega arith); counted = λ i e inside. absurd (omega arith) };
  post = record { rising = λ i j e below inside. absurd (omega arith); counted = λ i e inside. absurd (omega arith) };
})

pub empty_sizes : (instances : List Instance) → AreInstances [] instances → sum_by size_of instances ≡ 0
empty_sizes instances empty =
    let bound = sum_by-le size_of 0 instances (λ k d within. let none = ap size_of (empty k d within) in omega arith) in
    omega (arith, bound)
