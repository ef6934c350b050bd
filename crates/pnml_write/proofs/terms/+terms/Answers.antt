use Rattle.std.proofs.Common.{IfOk, ◌≡◌, ap, map, sym, subst, ◌∙◌}
use Rattle.net_elements.specs.declared.roles.Role.TheVariants as role
use Rattle.pnml_write.specs.Canon.{holder, part, term_tree}
use Rattle.pnml_write.proofs.Trees.{add_tree, tuple_tree}
use Rattle.pnml_write.proofs.terms.+terms.Goals as goal

pub term_tree-returns-in-Tuple : goal.term_tree-returns-in-Tuple
term_tree-returns-in-Tuple t c =
    subst (λ e. IfOk c.around_parts.result (λ tree. tree ≡ e))
    (ap (λ ts. holder role.Tuple (map (λ t. part (term_tree t)) ts)) c.as_slice.ensures ∙ sym (ap term_tree c.in-Tuple.is ∙ tuple_tree c.in-Tuple.parts))
    c.around_parts.ensures

pub term_tree-returns-in-Add : goal.term_tree-returns-in-Add
term_tree-returns-in-Add t c =
    subst (λ e. IfOk c.around_parts-in-Add.result (λ tree. tree ≡ e))
    (ap (λ ts. holder role.Add (map (λ t. part (term_tree t)) ts)) c.as_slice-in-Add.ensures ∙ sym (ap term_tree c.in-Add.is ∙ add_tree c.in-Add.parts))
    c.around_parts-in-Add.ensures
