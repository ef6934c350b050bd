use Rattle.std.proofs.Common.{◌≡◌, ◌∙◌, ◌++◌, ◌∷◌, [], List, ap, sym, map, arith}
use Rattle.std.specs.List.{range_with_len}
use Rattle.std.proofs.lemmas.List.FromFn.{map-range_with_len_more}
use Rattle.pt_net.specs.Systems.{places}
use Rattle.reductions.specs.declared.Slot.{Slot}
use Rattle.reductions.specs.Slots.{slot_over, slots_over}
use Rattle.reductions.proofs.reduced.slots.Goals as goal

pub loop-place-preserved : goal.loop-place-preserved
loop-place-preserved c =
    c.in_ok-push.ensures.items
    ∙ ap (λ (xs : List Slot). xs ++ c.slot.result ∷ []) c.loop-place.invariant
    ∙ ap (λ (s : Slot). map (slot_over c.args.net.now c.args.constant.now) (range_with_len 0 c.loop-place.place) ++ s ∷ []) c.slot.ensures
    ∙ sym (map-range_with_len_more (slot_over c.args.net.now c.args.constant.now) 0 c.loop-place.place c.loop-place.place (omega arith))

pub returns : goal.returns
unfolding slots_over
returns c =
    let at_end : c.loop-place.place ≡ places c.args.net.now = (let all = c.places-place-end.ensures in let test = c.loop-place-test.false in let top = c.loop-place.auto.place-end in omega arith) in
    c.loop-place.invariant ∙ ap (λ n. map (slot_over c.args.net.now c.args.constant.now) (range_with_len 0 n)) at_end
