use Rattle.std.proofs.Common.{IfOk, ◌≡◌, ap, map, sym, subst, ◌∙◌}
use Rattle.net_elements.specs.declared.roles.Role.TheVariants as role
use Rattle.pnml_write.specs.Canon.{guard_part_tree, guard_tree, holder}
use Rattle.pnml_write.proofs.Trees.{and_tree, or_tree}
use Rattle.pnml_write.proofs.guards.+guards.Goals as goal

pub guard_tree-returns-in-And : goal.guard_tree-returns-in-And
guard_tree-returns-in-And t c =
    subst (λ e. IfOk c.around_parts.result (λ tree. tree ≡ e))
    (ap (λ gs. holder role.And (map (λ g. guard_part_tree (guard_tree g)) gs)) c.as_slice.ensures ∙ sym (ap guard_tree c.in-And.is ∙ and_tree c.in-And.parts))
    c.around_parts.ensures

pub guard_tree-returns-in-Or : goal.guard_tree-returns-in-Or
guard_tree-returns-in-Or t c =
    subst (λ e. IfOk c.around_parts-in-Or.result (λ tree. tree ≡ e))
    (ap (λ gs. holder role.Or (map (λ g. guard_part_tree (guard_tree g)) gs)) c.as_slice-in-Or.ensures ∙ sym (ap guard_tree c.in-Or.is ∙ or_tree c.in-Or.parts))
    c.around_parts-in-Or.ensures
