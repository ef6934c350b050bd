use Rattle.std.proofs.Common.{rules, ◌≡◌, ◌<◌, ◌≤◌, ◌+◌, ◌*◌, ◌^◌, ◌++◌, [], ◌∷◌, ℕ, true, false, List, subst, sym, ap, ◌∙◌, arith, drop, take, length, get_or, map, refl}
use Rattle.std.specs.Prelude.{All}
use Rattle.std.proofs.Math.Nat.{mul-le-mul_left}
use Rattle.std.proofs.lemmas.List.{get_or-map, length-map}
use Rattle.std.proofs.lemmas.List.Folds.{list_all_at}
use Rattle.std.proofs.lemmas.List.Sums.{get_or-le-sum_by}
use Rattle.multiset_terms.specs.declared.trees.Tree.{Tree}
use Rattle.multiset_terms.specs.declared.trees.Tree.TheViews.{the_lemmas}
use Rattle.multiset_terms.specs.Rows.{total}
use Rattle.multiset_terms.specs.Added.{AreAdded, HaveRoom, IsAdded, IsNothing, IsValue}
use Rattle.multiset_terms.specs.Trees.{HasTuples, are_defined, are_sound, gross_sum, reading, readings}
use Rattle.multiset_terms.proofs.Adding.{if-both, if-done, merge-fits, minus-added, minus-needs, minus-none, nothing-there, product-added, product-needs, rooms, sum-added, sum-step, times-added, times-fits, times-none, times-nothing, value-of}
use Rattle.multiset_terms.proofs.Readings.{and-true, readings-drop}
use Rattle.multiset_terms.proofs.ValueLaws.{reading-Minus, reading-Product, reading-Sum, reading-Times, readings-take, sum-fits}
use Rattle.multiset_terms.proofs.values.+adding.Goals as goal

rest-sound : (b : List ℕ) (parts : List Tree) (i : ℕ) (d : Tree) → i < length parts → are_sound (readings b (drop i parts)) ≡ true
    → ((reading b (get_or parts i d)).is_sound ≡ true) × (are_sound (readings b (drop (i + 1) parts)) ≡ true)
rest-sound b parts i d within known =
    and-true (reading b (get_or parts i d)).is_sound (are_sound (readings b (drop (i + 1) parts)))
    (ap are_sound (sym (readings-drop b parts i d within)) ∙ known)

some-undefined : (b : List ℕ) (parts : List Tree) (i : ℕ) (d : Tree) → i < length parts → (reading b (get_or parts i d)).is_defined ≡ false → are_defined (readings b parts) ≡ false
some-undefined b parts i d within lacks =
    let long = length-map parts (reading b) in
    list_all_at (λ r. r.is_defined) (readings b parts) i (reading b d) (omega (arith, long))
    (ap (λ r. r.is_defined) (get_or-map (reading b) parts i d (reading b d) within) ∙ lacks)

part-fits : (b : List ℕ) (parts : List Tree) (i times : ℕ) (d : Tree) → i < length parts → times * gross_sum (readings b parts) < 2 ^ 63 → times * (reading b (get_or parts i d)).gross < 2 ^ 63
part-fits b parts i times d within fits =
    let long = length-map parts (reading b) in
    let part = get_or-le-sum_by (λ r. r.gross) (readings b parts) i (reading b d) (omega (arith, long, within)) in
    let same = ap (λ r. r.gross) (get_or-map (reading b) parts i d (reading b d) within) in
    let less : times * (reading b (get_or parts i d)).gross ≤ times * gross_sum (readings b parts) = mul-le-mul_left times (omega (arith, part, same)) in
    omega (arith, less, fits)

part-room : (b : List ℕ) (parts : List Tree) (i offset : ℕ) (d : Tree) → i < length parts → HaveRoom offset (readings b parts) → offset + (reading b (get_or parts i d)).size ≤ 2 ^ 32
part-room b parts i offset d within room =
    let long = length-map parts (reading b) in
    let same = ap (λ r. r.size) (get_or-map (reading b) parts i d (reading b d) within) in
    let known = room i (reading b d) (omega (arith, long, within)) in
    omega (arith, known, same)

pub add_nothing-returns-clause-value : goal.add_nothing-returns-clause-value
add_nothing-returns-clause-value t c =
    if-done c.add_value.result _ _ (λ known. nothing-there (reading c.args.binding.now c.args.tree.now) (record { times = 1; offset = c.args.offset }) c.add_value.new.cells.items c.requires.none refl
    (subst (λ old. IsAdded (reading c.args.binding.now c.args.tree.now) (record { times = 1; offset = c.args.offset }) old c.add_value.new.cells.items) c.new-cells.ensures.items known)) c.add_value.ensures.value

pub add_sum-add_value-requires : goal.add_sum-add_value-requires
add_sum-add_value-requires t c =
    let b = c.args.binding.now in
    let parts = c.args.parts.now in
    let i = c.loop-part.part-index in
    let part = c.part-item.result in
    let same = ap (reading b) c.part-item.is in
    let fits = part-fits b parts i c.args.scale.times part c.loop-part-test.true c.requires.fits in
    let room = part-room b parts i c.args.scale.offset part c.loop-part-test.true c.requires.room in
    let sound = (rest-sound b parts i part c.loop-part-test.true c.loop-part.invariant.rest).0 in (
      search (rules, the_lemmas),
      (
        ap (λ r. r.is_sound) same ∙ sound,
        (
          subst (λ r. c.args.scale.times * r.gross < 2 ^ 63) (sym same) fits,
          subst (λ r. c.args.scale.offset + r.size ≤ 2 ^ 32) (sym same) room,
        ),
      ),
    )

pub add_sum-returns-in-Err-clause-negative : goal.add_sum-returns-in-Err-clause-negative
add_sum-returns-in-Err-clause-negative t c = λ negative.
    let b = c.args.binding.now in
    some-undefined b c.args.parts.now c.loop-part.part-index c.part-item.result c.loop-part-test.true
    (ap (λ tree. (reading b tree).is_defined) (sym c.part-item.is) ∙ c.in-Err.ensures.negative negative)

pub add_sum-loop-part-preserved : goal.add_sum-loop-part-preserved
add_sum-loop-part-preserved t c =
    let b = c.args.binding.now in
    let parts = c.args.parts.now in
    let i = c.loop-part.part-index in
    let part = c.part-item.result in
    let new = c.add_value.new.cells.items in
    let one : IsAdded (reading b (get_or parts i part)) c.args.scale c.loop-part.cells.items new = subst (λ tree. IsAdded (reading b tree) c.args.scale c.loop-part.cells.items new) c.part-item.is c.in-Ok.ensures.value in
    record {
      rest = (rest-sound b parts i part c.loop-part-test.true c.loop-part.invariant.rest).1;
      added = subst (λ rs. AreAdded rs c.args.scale c.args.cells.now.items new) (sym (readings-take b parts i part c.loop-part-test.true))
          (sum-step (readings b (take i parts)) (reading b (get_or parts i part)) c.args.scale c.args.cells.now.items c.loop-part.cells.items new c.loop-part.invariant.added one);
    }

pub add_value-add_value-requires : goal.add_value-add_value-requires
add_value-add_value-requires t c =
    let b = c.args.binding.now in
    let e = ap (reading b) c.in-Times.is ∙ reading-Times b c.in-Times.number c.in-Times.child in
    let child = ap (reading b) c.get.ensures in
    let sound = and-true (reading b c.in-Times.child).is_sound _ (ap (λ r. r.is_sound) (sym e) ∙ c.requires.sound) in
    let fits : c.args.scale.times * (c.in-Times.number * (reading b c.in-Times.child).gross) < 2 ^ 63 = subst (λ r. c.args.scale.times * r.gross < 2 ^ 63) e c.requires.fits in
    let room : c.args.scale.offset + (reading b c.in-Times.child).size ≤ 2 ^ 32 = subst (λ r. c.args.scale.offset + r.size ≤ 2 ^ 32) e c.requires.room in (
      search (rules, the_lemmas),
      (
        ap (λ r. r.is_sound) child ∙ sound.0,
        (
          subst (λ r. c.in-Some.times * r.gross < 2 ^ 63) (sym child) (times-fits c.args.scale.times c.in-Times.number (reading b c.in-Times.child).gross c.in-Some.times fits c.in-Some.ensures.1),
          subst (λ r. c.args.scale.offset + r.size ≤ 2 ^ 32) (sym child) room,
        ),
      ),
    )

pub add_value-returns-in-Some-clause-value : goal.add_value-returns-in-Some-clause-value
add_value-returns-in-Some-clause-value t c =
    let b = c.args.binding.now in
    let e = ap (reading b) c.in-Times.is ∙ reading-Times b c.in-Times.number c.in-Times.child in
    let new = c.add_value.new.cells.items in
    if-done c.add_value.result _ _ (λ known. subst (λ r. IsAdded r c.args.scale c.args.cells.now.items new) (sym e)
    (times-added b c.in-Times.number (reading b c.in-Times.child) c.args.scale (record { times = c.in-Some.times; offset = c.args.scale.offset }) c.args.cells.now.items new
    (subst (λ tree. IsAdded (reading b tree) (record { times = c.in-Some.times; offset = c.args.scale.offset }) c.args.cells.now.items new) c.get.ensures known) c.in-Some.ensures.1 refl)) c.add_value.ensures.value

pub add_value-add_sum-requires : goal.add_value-add_sum-requires
add_value-add_sum-requires t c =
    let b = c.args.binding.now in
    let e = ap (reading b) c.in-Sum.is ∙ reading-Sum b c.in-Sum.field-0 c.in-Sum.parts in
    let parts = ap (readings b) c.as_slice.ensures in
    let known = sum-fits b c.in-Sum.field-0 (readings b c.in-Sum.parts) (ap (λ r. r.is_sound) (sym e) ∙ c.requires.sound) in
    let fits : c.args.scale.times * gross_sum (readings b c.in-Sum.parts) < 2 ^ 63 = subst (λ r. c.args.scale.times * r.gross < 2 ^ 63) e c.requires.fits in
    let room : c.args.scale.offset + c.in-Sum.field-0 ≤ 2 ^ 32 = subst (λ r. c.args.scale.offset + r.size ≤ 2 ^ 32) e c.requires.room in (
      search (rules, the_lemmas),
      (
        ap are_sound parts ∙ known.0,
        (
          subst (λ rs. c.args.scale.times * gross_sum rs < 2 ^ 63) (sym parts) fits,
          subst (HaveRoom c.args.scale.offset) (sym parts) (rooms c.args.scale.offset c.in-Sum.field-0 (readings b c.in-Sum.parts) known.1 room),
        ),
      ),
    )

pub add_value-returns-in-Sum-clause-value : goal.add_value-returns-in-Sum-clause-value
add_value-returns-in-Sum-clause-value t c =
    let b = c.args.binding.now in
    let e = ap (reading b) c.in-Sum.is ∙ reading-Sum b c.in-Sum.field-0 c.in-Sum.parts in
    let known = sum-fits b c.in-Sum.field-0 (readings b c.in-Sum.parts) (ap (λ r. r.is_sound) (sym e) ∙ c.requires.sound) in
    let new = c.add_sum.new.cells.items in
    if-done c.add_sum.result _ _ (λ added. subst (λ r. IsAdded r c.args.scale c.args.cells.now.items new) (sym e)
    (sum-added b c.in-Sum.field-0 (readings b c.in-Sum.parts) c.args.scale c.args.cells.now.items new known.1
    (subst (λ trees. AreAdded (readings b trees) c.args.scale c.args.cells.now.items new) c.as_slice.ensures added))) c.add_sum.ensures.value

pub add_value-add_row-requires-clause-room : goal.add_value-add_row-requires-clause-room
add_value-add_row-requires-clause-room t c =
    let b = c.args.binding.now in
    let e = ap (reading b) c.in-Product.is ∙ reading-Product b c.in-Product.field-0 c.in-Product.parts in
    let row = subst (λ trees. HasTuples (readings b trees) c.in_ok-row-in-Product.row) c.as_slice-in-Product.ensures c.in_ok-row-in-Product.ensures in
    let needs = product-needs b c.in-Product.field-0 (readings b c.in-Product.parts) c.args.scale c.in_ok-row-in-Product.row (ap (λ r. r.is_sound) (sym e) ∙ c.requires.sound)
    (subst (λ r. c.args.scale.times * r.gross < 2 ^ 63) e c.requires.fits) (subst (λ r. c.args.scale.offset + r.size ≤ 2 ^ 32) e c.requires.room) row in
    subst (All (λ d. c.args.scale.offset + d.at < 2 ^ 32)) (sym c.cells.ensures.cells) needs.1

pub add_value-add_row-requires-clause-fits : goal.add_value-add_row-requires-clause-fits
add_value-add_row-requires-clause-fits t c =
    let b = c.args.binding.now in
    let e = ap (reading b) c.in-Product.is ∙ reading-Product b c.in-Product.field-0 c.in-Product.parts in
    let row = subst (λ trees. HasTuples (readings b trees) c.in_ok-row-in-Product.row) c.as_slice-in-Product.ensures c.in_ok-row-in-Product.ensures in
    let needs = product-needs b c.in-Product.field-0 (readings b c.in-Product.parts) c.args.scale c.in_ok-row-in-Product.row (ap (λ r. r.is_sound) (sym e) ∙ c.requires.sound)
    (subst (λ r. c.args.scale.times * r.gross < 2 ^ 63) e c.requires.fits) (subst (λ r. c.args.scale.offset + r.size ≤ 2 ^ 32) e c.requires.room) row in
    subst (λ cells. c.args.scale.times * total cells < 2 ^ 63) (sym c.cells.ensures.cells) needs.2

pub add_value-returns-in_ok-add_row-in-Product-clause-value : goal.add_value-returns-in_ok-add_row-in-Product-clause-value
add_value-returns-in_ok-add_row-in-Product-clause-value t c =
    let b = c.args.binding.now in
    let e = ap (reading b) c.in-Product.is ∙ reading-Product b c.in-Product.field-0 c.in-Product.parts in
    let row = subst (λ trees. HasTuples (readings b trees) c.in_ok-row-in-Product.row) c.as_slice-in-Product.ensures c.in_ok-row-in-Product.ensures in
    let needs = product-needs b c.in-Product.field-0 (readings b c.in-Product.parts) c.args.scale c.in_ok-row-in-Product.row (ap (λ r. r.is_sound) (sym e) ∙ c.requires.sound)
    (subst (λ r. c.args.scale.times * r.gross < 2 ^ 63) e c.requires.fits) (subst (λ r. c.args.scale.offset + r.size ≤ 2 ^ 32) e c.requires.room) row in
    subst (λ r. IsAdded r c.args.scale c.args.cells.now.items c.add_row.new.cells.items) (sym e)
    (product-added b c.in-Product.field-0 (readings b c.in-Product.parts) c.args.scale c.cells.result.now c.args.cells.now.items c.add_row.new.cells.items needs.0
    (subst (HasTuples (readings b c.in-Product.parts)) (sym c.cells.ensures.cells) row) c.in_ok-add_row-in-Product.ensures)

pub add_value-cells_of-requires : goal.add_value-cells_of-requires
add_value-cells_of-requires t c =
    let b = c.args.binding.now in
    let e = ap (reading b) c.in-Minus.is ∙ reading-Minus b c.in-Minus.whole c.in-Minus.part in
    let child = ap (reading b) c.get-in-Minus.ensures in
    let needs = minus-needs b (reading b c.in-Minus.whole) (reading b c.in-Minus.part) c.args.scale.offset (ap (λ r. r.is_sound) (sym e) ∙ c.requires.sound)
    (subst (λ r. c.args.scale.offset + r.size ≤ 2 ^ 32) e c.requires.room) in (
      search (rules, the_lemmas),
      (
        ap (λ r. r.is_sound) child ∙ needs.first_sound,
        (
          subst (λ r. r.gross < 2 ^ 63) (sym child) needs.first_fits,
          subst (λ r. r.size ≤ 2 ^ 32) (sym child) needs.room,
        ),
      ),
    )

pub add_value-returns-in-Ok-cells_of-clause-value : goal.add_value-returns-in-Ok-cells_of-clause-value
add_value-returns-in-Ok-cells_of-clause-value t c =
    let b = c.args.binding.now in
    let e = ap (reading b) c.in-Minus.is ∙ reading-Minus b c.in-Minus.whole c.in-Minus.part in
    let needs = minus-needs b (reading b c.in-Minus.whole) (reading b c.in-Minus.part) c.args.scale.offset (ap (λ r. r.is_sound) (sym e) ∙ c.requires.sound)
    (subst (λ r. c.args.scale.offset + r.size ≤ 2 ^ 32) e c.requires.room) in
    let first = subst (λ cells. IsValue (reading b c.in-Minus.whole) cells) (sym c.as_slice-in-Minus.ensures.value) (subst (λ tree. IsValue (reading b tree) c.in-Ok.whole.items) c.get-in-Minus.ensures c.in-Ok.ensures.value) in
    let second = subst (λ cells. IsValue (reading b c.in-Minus.part) cells) (sym c.as_slice-in-Minus-2.ensures.value) (subst (λ tree. IsValue (reading b tree) c.in-Ok-cells_of.part.items) c.get-in-Minus-2.ensures c.in-Ok-cells_of.ensures.value) in
    if-both c.push_difference.result (λ inside gains. subst (λ r. IsAdded r c.args.scale c.args.cells.now.items c.push_difference.new.cells.items) (sym e)
    (minus-added b (reading b c.in-Minus.whole) (reading b c.in-Minus.part) c.args.scale c.as_slice-in-Minus.result.now c.as_slice-in-Minus-2.result.now c.args.cells.now.items c.push_difference.new.cells.items
    first second needs.same inside gains)) c.push_difference.ensures.enough c.push_difference.ensures.gains

pub add_value-returns-in-Ok-cells_of-clause-negative : goal.add_value-returns-in-Ok-cells_of-clause-negative
add_value-returns-in-Ok-cells_of-clause-negative t c = λ negative.
    let b = c.args.binding.now in
    let e = ap (reading b) c.in-Minus.is ∙ reading-Minus b c.in-Minus.whole c.in-Minus.part in
    let needs = minus-needs b (reading b c.in-Minus.whole) (reading b c.in-Minus.part) c.args.scale.offset (ap (λ r. r.is_sound) (sym e) ∙ c.requires.sound)
    (subst (λ r. c.args.scale.offset + r.size ≤ 2 ^ 32) e c.requires.room) in
    let first = subst (λ cells. IsValue (reading b c.in-Minus.whole) cells) (sym c.as_slice-in-Minus.ensures.value) (subst (λ tree. IsValue (reading b tree) c.in-Ok.whole.items) c.get-in-Minus.ensures c.in-Ok.ensures.value) in
    let second = subst (λ cells. IsValue (reading b c.in-Minus.part) cells) (sym c.as_slice-in-Minus-2.ensures.value) (subst (λ tree. IsValue (reading b tree) c.in-Ok-cells_of.part.items) c.get-in-Minus-2.ensures c.in-Ok-cells_of.ensures.value) in
    ap (λ r. r.is_defined) e
    ∙ minus-none b (reading b c.in-Minus.whole) (reading b c.in-Minus.part) c.as_slice-in-Minus.result.now c.as_slice-in-Minus-2.result.now first second needs.same (c.push_difference.ensures.negative negative)

pub cells_of-merge-requires : goal.cells_of-merge-requires
cells_of-merge-requires t c =
    let r = reading c.args.binding.now c.args.tree.now in
    merge-fits r (record { times = 1; offset = 0 }) c.add_value.new.cells.items refl c.requires.fits
    (subst (λ old. IsAdded r (record { times = 1; offset = 0 }) old c.add_value.new.cells.items) c.new-cells.ensures.items c.in-Ok.ensures.value)

pub cells_of-returns-in-Ok-clause-value : goal.cells_of-returns-in-Ok-clause-value
cells_of-returns-in-Ok-clause-value t c =
    let r = reading c.args.binding.now c.args.tree.now in
    value-of r (record { times = 1; offset = 0 }) c.add_value.new.cells.items c.merge.new.cells.items refl refl
    (subst (λ old. IsAdded r (record { times = 1; offset = 0 }) old c.add_value.new.cells.items) c.new-cells.ensures.items c.in-Ok.ensures.value)
    c.merge.ensures.row c.merge.ensures.counts c.merge.ensures.total c.merge.ensures.below
