use Rattle.std.proofs.Common.{◌+◌, ◌∷◌, drop, ap, subst, sym, ◌∙◌, arith}
use Rattle.multiset_terms.specs.Trees.{reading, readings}
use Rattle.multiset_terms.proofs.Readings.{readings-drop}
use Rattle.multiset_terms.proofs.ValueLaws.{IsFront, front-start, front-room, front-step}
use Rattle.multiset_terms.proofs.values.product.Goals as goal

pub loop-part-init : goal.loop-part-init
loop-part-init c = front-start (readings c.args.binding.now c.args.parts.now) c.in_ok-fronts.fronts c.requires.choices (c.in_ok-fronts.ensures 1 (omega arith))

pub chosen-requires-clause-room : goal.chosen-requires-clause-room
chosen-requires-clause-room c =
    let b = c.args.binding.now in
    let rest = readings b (drop (c.loop-part.part-index + 1) c.args.parts.now) in
    let next = readings-drop b c.args.parts.now c.loop-part.part-index c.part-item.result c.loop-part-test.true ∙ ap (λ tree. reading b tree ∷ rest) (sym c.part-item.is) in
    front-room (readings b c.args.parts.now) (reading b c.part-item.result) rest c.loop-part.fronts (subst (λ rs. IsFront (readings b c.args.parts.now) rs c.loop-part.fronts) next c.loop-part.invariant) c.requires.room

pub loop-part-preserved : goal.loop-part-preserved
loop-part-preserved c =
    let b = c.args.binding.now in
    let rest = readings b (drop (c.loop-part.part-index + 1) c.args.parts.now) in
    let next = readings-drop b c.args.parts.now c.loop-part.part-index c.part-item.result c.loop-part-test.true ∙ ap (λ tree. reading b tree ∷ rest) (sym c.part-item.is) in
    front-step (readings b c.args.parts.now) (reading b c.part-item.result) rest c.loop-part.fronts c.in_ok-fronts-2.fronts
    (subst (λ rs. IsFront (readings b c.args.parts.now) rs c.loop-part.fronts) next c.loop-part.invariant) c.in_ok-fronts-2.ensures
