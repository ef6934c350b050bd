use Rattle.std.proofs.Common.{◌≡◌, ◌∙◌, ◌+◌, true, false, ap, arith, sym}
use Rattle.std.proofs.lemmas.Bool.{not_from_false, not_from_true}
use Rattle.trap_siphon.specs.Sets.{has}
use Rattle.reductions.specs.Merging.{stays}
use Rattle.reductions.proofs.Numbers.{rank-le, rank_yes, rank_no}
use Rattle.reductions.proofs.merging.rank_after.Goals as goal

pub returns-then-has : goal.returns-then-has
returns-then-has c =
    let here : has c.args.constant.now c.args.place ≡ true = sym c.has.ensures ∙ c.if-has.true in
    c.requires.kept ∙ sym (rank_no c.args.place (stays c.args.constant.now) (not_from_true (has c.args.constant.now c.args.place) here))

pub overflow_add-result : goal.overflow_add-result
overflow_add-result c =
    let le = rank-le c.args.place (stays c.args.constant.now) in
    let is = c.requires.kept in
    let few = c.requires.few in
    let low = c.requires.place in
    omega arith

pub returns-else-has : goal.returns-else-has
returns-else-has c =
    let off : has c.args.constant.now c.args.place ≡ false = sym c.has.ensures ∙ c.if-has.false in
    ap (λ n. n + 1) c.requires.kept ∙ sym (rank_yes c.args.place (stays c.args.constant.now) (not_from_false (has c.args.constant.now c.args.place) off))
