use Rattle.std.proofs.Common.{sym, ap, ◌∙◌}
use Rattle.multiset_terms.specs.declared.conditions.CGuard.TheVariants as condition
use Rattle.multiset_terms.specs.Conditions.{block_uses_at, condition_uses_at, condition_uses_part}
use Rattle.multiset_terms.specs.Trees.{uses_at}
use Rattle.multiset_terms.proofs.ConditionLayers.{condition-And, condition-Compare, condition-CompareBlocks, condition-Imply, condition-Not, condition-Or}
use Rattle.multiset_terms.proofs.Marking.{both-marked, conditions-step, same-marked}
use Rattle.multiset_terms.proofs.marks.+marking_guards.Goals as goal

pub mark_condition-returns-in-And : goal.mark_condition-returns-in-And
mark_condition-returns-in-And t c =
    same-marked _ (λ v. condition_uses_at v c.args.condition.now) _ _
    (λ v. sym (ap (condition_uses_at v) (c.in-And.is ∙ ap condition.And (sym c.as_slice.ensures)) ∙ condition-And (condition_uses_part v) c.as_slice.result.now)) c.mark_conditions.ensures

pub mark_condition-returns-in-Or : goal.mark_condition-returns-in-Or
mark_condition-returns-in-Or t c =
    same-marked _ (λ v. condition_uses_at v c.args.condition.now) _ _
    (λ v. sym (ap (condition_uses_at v) (c.in-Or.is ∙ ap condition.Or (sym c.as_slice-in-Or.ensures)) ∙ condition-Or (condition_uses_part v) c.as_slice-in-Or.result.now)) c.mark_conditions-in-Or.ensures

pub mark_condition-returns-in-Not : goal.mark_condition-returns-in-Not
mark_condition-returns-in-Not t c =
    same-marked _ (λ v. condition_uses_at v c.args.condition.now) _ _
    (λ v. sym (ap (condition_uses_at v) (c.in-Not.is ∙ ap condition.Not (sym c.get.ensures)) ∙ condition-Not (condition_uses_part v) c.get.result.now)) c.mark_condition.ensures

pub mark_condition-returns-in-Imply : goal.mark_condition-returns-in-Imply
mark_condition-returns-in-Imply t c =
    same-marked _ (λ v. condition_uses_at v c.args.condition.now) _ _
    (λ v. sym (ap (condition_uses_at v) (c.in-Imply.is ∙ ap (λ x. condition.Imply x c.in-Imply.second) (sym c.get-in-Imply.ensures) ∙ ap (condition.Imply c.get-in-Imply.result.now) (sym c.get-in-Imply-2.ensures))
    ∙ condition-Imply (condition_uses_part v) c.get-in-Imply.result.now c.get-in-Imply-2.result.now))
    (both-marked (λ v. condition_uses_at v c.get-in-Imply.result.now) (λ v. condition_uses_at v c.get-in-Imply-2.result.now) _ _ _ c.mark_condition-in-Imply.ensures c.mark_condition-in-Imply-2.ensures)

pub mark_conditions-loop-condition-preserved : goal.mark_conditions-loop-condition-preserved
mark_conditions-loop-condition-preserved t c =
    conditions-step c.args.conditions.now c.loop-condition.condition-index c.condition-item.result _ _ _ c.loop-condition-test.true c.condition-item.is c.mark_condition.ensures c.loop-condition.invariant

pub mark_condition-returns-in-Compare : goal.mark_condition-returns-in-Compare
mark_condition-returns-in-Compare t c =
    same-marked _ (λ v. condition_uses_at v c.args.condition.now) _ _
    (λ v. sym (ap (condition_uses_at v) c.in-Compare.is ∙ condition-Compare (condition_uses_part v) c.in-Compare.field-0 c.in-Compare.first c.in-Compare.second))
    (both-marked (λ v. uses_at v c.in-Compare.first) (λ v. uses_at v c.in-Compare.second) _ _ _ c.mark_tree.ensures c.mark_tree-in-Compare.ensures)

pub mark_condition-returns-in-CompareBlocks : goal.mark_condition-returns-in-CompareBlocks
mark_condition-returns-in-CompareBlocks t c =
    same-marked _ (λ v. condition_uses_at v c.args.condition.now) _ _
    (λ v. sym (ap (condition_uses_at v) c.in-CompareBlocks.is
    ∙ condition-CompareBlocks (condition_uses_part v) c.in-CompareBlocks.field-0 c.in-CompareBlocks.field-1 c.in-CompareBlocks.first c.in-CompareBlocks.second))
    (both-marked (λ v. block_uses_at v c.in-CompareBlocks.first) (λ v. block_uses_at v c.in-CompareBlocks.second) _ _ _ c.mark_block.ensures c.mark_block-in-CompareBlocks.ensures)
