use Rattle.std.proofs.Common.{◌+◌, ◌∙◌, ap, arith, get_or, sym, subst}
use Rattle.std.proofs.lemmas.List.{get_or_default}
use Rattle.net_typing.specs.Rules.{IsRefusal}
use Rattle.net_typing.specs.TypedArcs.{IsTypedSoFar, own_refusal}
use Rattle.net_typing.proofs.ArcsGathered.{gathered-more}
use Rattle.net_typing.proofs.ArcsListed.{own-unfit}
use Rattle.net_typing.proofs.arcs.gather.Goals as goal

pub returns-in-Err : goal.returns-in-Err
returns-in-Err g c =
    let arcs = c.args.arcs.now in
    let i = c.loop-arc.arc-index in
    let a = c.arc-item.result in
    let many = c.loop-arc.invariant.each.many in
    let refused = c.of.ensures (own_refusal g.net a) (own-unfit g.net a c.in-Err.unfit c.in-Err.ensures) in
    record {
      within = omega (arith, many, c.loop-arc-test.true);
      typed = subst (λ n. IsTypedSoFar g.net arcs n c.loop-arc.typed.items) (sym many) c.loop-arc.invariant;
      stop = (
        omega (arith, many, c.loop-arc-test.true),
        λ d. subst (λ x. IsRefusal (own_refusal g.net x) c.of.result) (c.arc-item.is ∙ get_or_default arcs i a d c.loop-arc-test.true ∙ ap (λ k. get_or arcs k d) (sym many)) refused,
      );
    }

pub loop-arc-preserved : goal.loop-arc-preserved
loop-arc-preserved g c =
    let arcs = c.args.arcs.now in
    subst (IsTypedSoFar g.net arcs (c.loop-arc.arc-index + 1)) (sym c.in_ok-push-in-Ok.ensures.items)
    (gathered-more g.net arcs c.loop-arc.arc-index c.loop-arc.typed.items c.arc-item.result c.in-Ok.found c.loop-arc-test.true c.arc-item.is c.loop-arc.invariant c.in-Ok.ensures)
