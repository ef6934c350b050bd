use Rattle.std.proofs.Common.{◌≡◌, ◌++◌, Err, Some, None, length, map, sym, ap, ◌∙◌}
use Rattle.std.proofs.lemmas.Result.{err_from_is_err_and}
use Rattle.doc_model.specs.declared.tree.Element.{out-Element}
use Rattle.mcc_model.specs.Goals.{children_faults, end_faults, walk_of}
use Rattle.mcc_formula.specs.Layouts.{nodes_of}
use Rattle.net_elements.specs.Walking.{name_of}
use Rattle.mcc_model.specs.declared.faults.FormulaFault.TheVariants.{NotReachability}
use Rattle.mcc_model.specs.Table.{part_of_child}
use Rattle.mcc_formula.proofs.Walks.{child_done, child_stops, goes_on, same_faults, stops, walk_at, walk_faults}
use Rattle.mcc_formula.proofs.walk.+walking.Goals as goal

pub element-returns-in_err-children : goal.element-returns-in_err-children
element-returns-in_err-children t c =
    let p = err_from_is_err_and c.from_residual.result c.from_residual.ensures.1 in
    let nodes = nodes_of c.args.layout.now in
    let parts = out-Element c.args.element.now in
    let inner = children_faults c.args.part 0 (map (walk_of nodes) parts.children) in
    let ends = end_faults nodes c.args.part parts.at (length parts.children) parts.text in
    let fault = c.in_err-children.field-0.0 in
    let known = same_faults _ inner (Err fault) (ap (λ es. children_faults c.args.part 0 (map (walk_of nodes) es)) c.as_slice.ensures) c.in_err-children.ensures in
    rw (p.1, p.2)
    (same_faults (inner ++ ends) _ (Err fault) (sym (walk_faults nodes c.args.element.now c.args.part)) (stops inner ends fault known))

pub element-returns : goal.element-returns
element-returns t c =
    let nodes = nodes_of c.args.layout.now in
    let parts = out-Element c.args.element.now in
    let inner = children_faults c.args.part 0 (map (walk_of nodes) parts.children) in
    let ends = end_faults nodes c.args.part parts.at (length parts.children) parts.text in
    let none = sym (ap (λ es. children_faults c.args.part 0 (map (walk_of nodes) es)) c.as_slice.ensures) ∙ c.in_ok-children.ensures in
    same_faults (inner ++ ends) _ c.end.result (sym (walk_faults nodes c.args.element.now c.args.part)) (goes_on inner ends c.end.result none c.end.ensures)

pub children-returns-in_err-element-in-Some : goal.children-returns-in_err-element-in-Some
children-returns-in_err-element-in-Some t c =
    let p = err_from_is_err_and c.from_residual.result c.from_residual.ensures.1 in
    let nodes = nodes_of c.args.layout.now in
    let e = c.index-children-at.result in
    let read : part_of_child c.args.part c.loop-at.at (name_of e) ≡ Some c.in-Some.part =
    sym (c.part_of_child.ensures ∙ ap (part_of_child c.args.part c.loop-at.at) c.bytes.ensures) ∙ c.in-Some.is in
    rw (p.1, p.2)
    (child_stops nodes c.args.part c.args.children.now c.loop-at.at e (Some c.in-Some.part) c.in_err-element-in-Some.field-0.0 c.loop-at-test.true c.index-children-at.is read c.loop-at.invariant c.in_err-element-in-Some.ensures)

pub children-returns-in-None : goal.children-returns-in-None
children-returns-in-None t c =
    let nodes = nodes_of c.args.layout.now in
    let e = c.index-children-at.result in
    let fault = NotReachability (out-Element e).at in
    let read : part_of_child c.args.part c.loop-at.at (name_of e) ≡ None =
    sym (c.part_of_child.ensures ∙ ap (part_of_child c.args.part c.loop-at.at) c.bytes.ensures) ∙ c.in-None.is in
    rw c.not_reachability.ensures
    (child_stops nodes c.args.part c.args.children.now c.loop-at.at e None fault c.loop-at-test.true c.index-children-at.is read c.loop-at.invariant (ap (λ a. Some (NotReachability a)) (walk_at nodes e)))

pub children-loop-at-preserved : goal.children-loop-at-preserved
children-loop-at-preserved t c =
    let nodes = nodes_of c.args.layout.now in
    let e = c.index-children-at.result in
    let read : part_of_child c.args.part c.loop-at.at (name_of e) ≡ Some c.in-Some.part =
    sym (c.part_of_child.ensures ∙ ap (part_of_child c.args.part c.loop-at.at) c.bytes.ensures) ∙ c.in-Some.is in
    child_done nodes c.args.part c.args.children.now c.loop-at.at e (Some c.in-Some.part) c.loop-at-test.true c.index-children-at.is read c.loop-at.invariant c.in_ok-element-in-Some.ensures
