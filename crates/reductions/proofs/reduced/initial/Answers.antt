use Rattle.std.proofs.Common.{◌≡◌, ◌∙◌, ◌++◌, ◌∷◌, [], List, ℕ, true, false, ap, sym, map, rules}
use Rattle.std.specs.Prelude.{slice_index}
use Rattle.std.proofs.lemmas.Bool.{not_from_false, not_from_true}
use Rattle.trap_siphon.specs.Sets.{has}
use Rattle.reductions.specs.Numbers.{numbers}
use Rattle.reductions.specs.Merging.{stays}
use Rattle.reductions.proofs.Slotting.{mapped_first, mapped_no, mapped_yes}
use Rattle.reductions.proofs.reduced.initial.Goals.{then-not-has+in_ok-push, else-not-has}
use Rattle.reductions.proofs.reduced.initial.Goals as goal

pub loop-place-init : goal.loop-place-init
loop-place-init c = (let none : c.new-found.result.items ≡ [] = search rules in none ∙ mapped_first (slice_index c.args.net.now.initial) (stays c.args.constant.now))

pub loop-place-preserved : goal.loop-place-preserved
loop-place-preserved c = elim c.if-not-has.branch [
  | then-not-has+in_ok-push w ↦
      let stay : has c.args.constant.now c.loop-place.place ≡ false = sym c.has.ensures ∙ w.if-not-has.true in
      ap (λ v. v.items) w.found-is
      ∙ w.in_ok-push.ensures.items
      ∙ ap (λ (xs : List ℕ). xs ++ w.initial.result ∷ []) c.loop-place.invariant
      ∙ ap (λ n. map (slice_index c.args.net.now.initial) (numbers c.loop-place.place (stays c.args.constant.now)) ++ n ∷ []) w.initial.ensures.count
      ∙ sym (mapped_yes (slice_index c.args.net.now.initial) (stays c.args.constant.now) c.loop-place.place (not_from_false (has c.args.constant.now c.loop-place.place) stay))
  | else-not-has w ↦
      let gone : has c.args.constant.now c.loop-place.place ≡ true = sym c.has.ensures ∙ w.if-not-has.false in
      ap (λ v. v.items) w.found-is ∙ c.loop-place.invariant ∙ sym (mapped_no (slice_index c.args.net.now.initial) (stays c.args.constant.now) c.loop-place.place (not_from_true (has c.args.constant.now c.loop-place.place) gone))
]
