use Rattle.std.proofs.Common.{◌≡◌, ◌∙◌, [], refl, ap, arith, rules, length}
use Rattle.std.specs.Prelude.{slice_index}
use Rattle.reductions.specs.Slots.{is_kept, slot_at}
use Rattle.reductions.proofs.Slotting.{mapped_first, project_more}
use Rattle.reductions.proofs.reduced.project.Goals as goal

pub loop-place-init : goal.loop-place-init
loop-place-init c =
    let none : c.new-found.result.items ≡ [] = search rules in
    record {
      so_far = none ∙ mapped_first (slice_index c.args.counts.now) (λ p. is_kept (slot_at c.args.slots.now p));
      low = λ k d within. (let long = ap length none in absurd (omega arith));
    }

pub loop-place-preserved : goal.loop-place-preserved
loop-place-preserved c = record {
  so_far = project_more c.args.slots.now c.args.counts.now c.loop-place.found.items c.put_kept.new.found.items c.loop-place.place _ _ c.loop-place-test.true refl c.loop-place.invariant.so_far c.in_ok-put_kept.ensures.counts;
  low = c.in_ok-put_kept.ensures.within;
}
