use Rattle.std.proofs.Common.{sym, ap, ◌∙◌}
use Rattle.multiset_terms.specs.declared.trees.Tree.TheVariants as tree
use Rattle.multiset_terms.specs.Trees.{uses_at}
use Rattle.multiset_terms.proofs.Marking.{both-marked, same-marked, trees-step, uses-Before, uses-Minus, uses-Next, uses-Product, uses-Sum, uses-Times, uses-Tuple}
use Rattle.multiset_terms.proofs.marks.+marking.Goals as goal

pub mark_tree-returns-in-Next : goal.mark_tree-returns-in-Next
mark_tree-returns-in-Next t c =
    same-marked _ (λ v. uses_at v c.args.tree.now) _ _
    (λ v. uses-Next v c.in-Next.field-0 c.get.result.now ∙ ap (uses_at v) (sym (c.in-Next.is ∙ ap (tree.Next c.in-Next.field-0) (sym c.get.ensures)))) c.mark_tree.ensures

pub mark_tree-returns-in-Before : goal.mark_tree-returns-in-Before
mark_tree-returns-in-Before t c =
    same-marked _ (λ v. uses_at v c.args.tree.now) _ _
    (λ v. uses-Before v c.in-Before.field-0 c.get-in-Before.result.now ∙ ap (uses_at v) (sym (c.in-Before.is ∙ ap (tree.Before c.in-Before.field-0) (sym c.get-in-Before.ensures)))) c.mark_tree-in-Before.ensures

pub mark_tree-returns-in-Tuple : goal.mark_tree-returns-in-Tuple
mark_tree-returns-in-Tuple t c =
    same-marked _ (λ v. uses_at v c.args.tree.now) _ _
    (λ v. uses-Tuple v c.in-Tuple.field-0 c.as_slice.result.now ∙ ap (uses_at v) (sym (c.in-Tuple.is ∙ ap (tree.Tuple c.in-Tuple.field-0) (sym c.as_slice.ensures)))) c.mark_trees.ensures

pub mark_tree-returns-in-Product : goal.mark_tree-returns-in-Product
mark_tree-returns-in-Product t c =
    same-marked _ (λ v. uses_at v c.args.tree.now) _ _
    (λ v. uses-Product v c.in-Product.field-0 c.as_slice-in-Product.result.now ∙ ap (uses_at v) (sym (c.in-Product.is ∙ ap (tree.Product c.in-Product.field-0) (sym c.as_slice-in-Product.ensures)))) c.mark_trees-in-Product.ensures

pub mark_tree-returns-in-Times : goal.mark_tree-returns-in-Times
mark_tree-returns-in-Times t c =
    same-marked _ (λ v. uses_at v c.args.tree.now) _ _
    (λ v. uses-Times v c.in-Times.field-0 c.get-in-Times.result.now ∙ ap (uses_at v) (sym (c.in-Times.is ∙ ap (tree.Times c.in-Times.field-0) (sym c.get-in-Times.ensures)))) c.mark_tree-in-Times.ensures

pub mark_tree-returns-in-Sum : goal.mark_tree-returns-in-Sum
mark_tree-returns-in-Sum t c =
    same-marked _ (λ v. uses_at v c.args.tree.now) _ _
    (λ v. uses-Sum v c.in-Sum.field-0 c.as_slice-in-Sum.result.now ∙ ap (uses_at v) (sym (c.in-Sum.is ∙ ap (tree.Sum c.in-Sum.field-0) (sym c.as_slice-in-Sum.ensures)))) c.mark_trees-in-Sum.ensures

pub mark_tree-returns-in-Minus : goal.mark_tree-returns-in-Minus
mark_tree-returns-in-Minus t c =
    same-marked _ (λ v. uses_at v c.args.tree.now) _ _
    (λ v. uses-Minus v c.get-in-Minus.result.now c.get-in-Minus-2.result.now
    ∙ ap (uses_at v) (sym (c.in-Minus.is ∙ ap (λ x. tree.Minus x c.in-Minus.part) (sym c.get-in-Minus.ensures) ∙ ap (tree.Minus c.get-in-Minus.result.now) (sym c.get-in-Minus-2.ensures))))
    (both-marked (λ v. uses_at v c.get-in-Minus.result.now) (λ v. uses_at v c.get-in-Minus-2.result.now) _ _ _ c.mark_tree-in-Minus.ensures c.mark_tree-in-Minus-2.ensures)

pub mark_trees-loop-tree-preserved : goal.mark_trees-loop-tree-preserved
mark_trees-loop-tree-preserved t c =
    trees-step c.args.trees.now c.loop-tree.tree-index c.tree-item.result _ _ _ c.loop-tree-test.true c.tree-item.is c.mark_tree.ensures c.loop-tree.invariant
