use Rattle.std.proofs.Common.{◌≡◌, ℕ, ◌++◌, ◌<◌, take, drop, ap, sym, ◌∙◌, arith, length, subst}
use Rattle.std.proofs.lemmas.List.{length-replicate}
use Rattle.std.proofs.Math.Seq.{take-append_seam}
use Rattle.colour_sorts.specs.declared.facts.Mark.TheVariants.{Fresh}
use Rattle.colour_sorts.specs.Walking.{AreMarked, IsMarkedAt}
use Rattle.colour_sorts.proofs.Broken.{marked-none}
use Rattle.colour_sorts.proofs.breaking.judged_marks.Goals as goal

pub judge_in_order-requires-clause-marked : goal.judge_in_order-requires-clause-marked
judge_in_order-requires-clause-marked c = marked-none c.args.sorts.now c.as_mut_slice.result.now (c.as_mut_slice.ensures.value ∙ c.in_ok-marks.ensures)

pub returns : goal.returns
returns c =
    let sorts = c.args.sorts.now in
    let now = c.judge_in_order.new.marks in
    let known = c.judge_in_order.ensures in
    let long : c.in_ok-marks.marks.len ≡ length now =
    omega (arith, known.marked.as_long, c.as_mut_slice.ensures.len, ap length (c.as_mut_slice.ensures.value ∙ c.in_ok-marks.ensures), length-replicate (length sorts) Fresh) in
    let kept = ap (λ n. take n (now ++ drop (length now) c.in_ok-marks.marks.items)) long ∙ take-append_seam now (drop (length now) c.in_ok-marks.marks.items) in
    record {
      marked = subst (AreMarked sorts) (sym kept) known.marked;
      all = subst (λ ms. (at : ℕ) → at < length sorts → IsMarkedAt sorts ms at) (sym kept) known.all;
    }
