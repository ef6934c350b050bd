use Rattle.std.proofs.Common.{rules, FitsSigned, w64, to_z-of_z, take, drop, map, ◌+◌, sym, ap, ◌∙◌, subst}
use Rattle.net_model.specs.declared.terms.Term.TheVariants as written
use Rattle.multiset_terms.specs.Parts.{AreChildren, IsAnswer, IsFault, IsPart}
use Rattle.multiset_terms.specs.Typing.{children, judged, judged_part, sum_kind, tuple_kind}
use Rattle.net_model.proofs.Layers.{fold-Add, fold-Tuple}
use Rattle.multiset_terms.proofs.Descent.{around, fault-behind, more-children, node-fault, up-to}
use Rattle.multiset_terms.proofs.compiling.+compiling.Goals as goal

pub part_of-returns-in-Operator : goal.part_of-returns-in-Operator
part_of-returns-in-Operator t c = λ ctx scope.
    subst (λ x. IsAnswer ctx c.args.marking x c.operator.result) (sym (c.in-Operator.is ∙ ap written.Operator (sym c.bytes-in-Operator.ensures)))
    (c.operator.ensures ctx c.args.variables.now c.args.marking scope)

pub part_of-returns-in-Dot : goal.part_of-returns-in-Dot
part_of-returns-in-Dot t c = λ ctx scope.
    subst (λ x. IsPart ctx c.args.marking x c.dot.result) (sym c.in-Dot.is) (c.dot.ensures ctx c.args.marking scope.distinct)

pub part_of-returns-in-Number : goal.part_of-returns-in-Number
part_of-returns-in-Number t c = λ ctx scope.
    let fits : FitsSigned w64 c.in-Number.value = search rules in
    let known = simp to_z-of_z at (c.number.ensures ctx c.args.variables.now c.args.marking scope) in
    subst (λ x. IsAnswer ctx c.args.marking x c.number.result) (sym c.in-Number.is) known

pub part_of-returns-in-Ok : goal.part_of-returns-in-Ok
part_of-returns-in-Ok t c = λ ctx scope.
    subst (λ x. IsAnswer ctx c.args.marking x c.next.result) (sym (c.in-Successor.is ∙ ap written.Successor (sym c.get.ensures)))
    (c.next.ensures ctx c.args.marking c.get.result.now scope.distinct (c.in-Ok.ensures ctx scope))

pub part_of-returns-in-Ok-part_of : goal.part_of-returns-in-Ok-part_of
part_of-returns-in-Ok-part_of t c = λ ctx scope.
    subst (λ x. IsAnswer ctx c.args.marking x c.before-in-Ok-part_of.result) (sym (c.in-Predecessor.is ∙ ap written.Predecessor (sym c.get-in-Predecessor.ensures)))
    (c.before-in-Ok-part_of.ensures ctx c.args.marking c.get-in-Predecessor.result.now scope.distinct (c.in-Ok-part_of.ensures ctx scope))

pub part_of-returns-in-Err-parts_of : goal.part_of-returns-in-Err-parts_of
part_of-returns-in-Err-parts_of t c = λ ctx scope.
    subst (λ x. IsFault c.in-Err-parts_of.fault (judged ctx c.args.marking x).verdict) (sym (c.in-Tuple.is ∙ ap written.Tuple (sym c.as_slice.ensures)))
    (node-fault ctx c.args.marking _ c.as_slice.result.now (tuple_kind ctx) c.in-Err-parts_of.fault (fold-Tuple (judged_part ctx c.args.marking) c.as_slice.result.now) (c.in-Err-parts_of.ensures ctx scope))

pub part_of-returns-in-All : goal.part_of-returns-in-All
part_of-returns-in-All t c = λ ctx scope.
    subst (λ x. IsAnswer ctx c.args.marking x c.all.result) (sym c.in-All.is) (c.all.ensures ctx c.args.variables.now c.args.marking scope)

pub part_of-returns-in-Empty : goal.part_of-returns-in-Empty
part_of-returns-in-Empty t c = λ ctx scope.
    subst (λ x. IsAnswer ctx c.args.marking x c.none.result) (sym c.in-Empty.is) (c.none.ensures ctx c.args.variables.now c.args.marking scope)

pub part_of-returns-in-Ok-part_of-2 : goal.part_of-returns-in-Ok-part_of-2
part_of-returns-in-Ok-part_of-2 t c = λ ctx scope.
    subst (λ x. IsAnswer ctx c.args.marking x c.multiple.result) (sym (c.in-NumberOf.is ∙ ap (written.NumberOf c.in-NumberOf.number) (sym c.get-in-NumberOf.ensures)))
    (c.multiple.ensures.number_of ctx c.args.marking c.get-in-NumberOf.result.now (c.in-Ok-part_of-2.ensures ctx scope))

pub part_of-returns-in-Ok-part_of-3 : goal.part_of-returns-in-Ok-part_of-3
part_of-returns-in-Ok-part_of-3 t c = λ ctx scope.
    subst (λ x. IsAnswer ctx c.args.marking x c.multiple-in-Ok-part_of-3.result) (sym (c.in-Scalar.is ∙ ap (written.Scalar c.in-Scalar.number) (sym c.get-in-Scalar.ensures)))
    (c.multiple-in-Ok-part_of-3.ensures.scalar ctx c.args.marking c.get-in-Scalar.result.now (c.in-Ok-part_of-3.ensures ctx scope))

pub part_of-returns-in-Err-parts_of-2 : goal.part_of-returns-in-Err-parts_of-2
part_of-returns-in-Err-parts_of-2 t c = λ ctx scope.
    subst (λ x. IsFault c.in-Err-parts_of-2.fault (judged ctx c.args.marking x).verdict) (sym (c.in-Add.is ∙ ap written.Add (sym c.as_slice-in-Add.ensures)))
    (node-fault ctx c.args.marking _ c.as_slice-in-Add.result.now sum_kind c.in-Err-parts_of-2.fault (fold-Add (judged_part ctx c.args.marking) c.as_slice-in-Add.result.now) (c.in-Err-parts_of-2.ensures ctx scope))

pub part_of-returns-in-Ok-part_of-5 : goal.part_of-returns-in-Ok-part_of-5
part_of-returns-in-Ok-part_of-5 t c = λ ctx scope.
    subst (λ x. IsAnswer ctx c.args.marking x c.difference.result)
    (sym (c.in-Subtract.is ∙ ap (λ x. written.Subtract x c.in-Subtract.part) (sym c.get-in-Subtract.ensures) ∙ ap (written.Subtract c.get-in-Subtract.result.now) (sym c.get-in-Subtract-2.ensures)))
    (c.difference.ensures ctx c.args.marking c.get-in-Subtract.result.now c.get-in-Subtract-2.result.now (c.in-Ok-part_of-4.ensures ctx scope) (c.in-Ok-part_of-5.ensures ctx scope))

pub part_of-returns-in-Ok-part_of-6 : goal.part_of-returns-in-Ok-part_of-6
part_of-returns-in-Ok-part_of-6 t c = λ ctx scope.
    subst (λ x. IsAnswer ctx c.args.marking x c.block.result)
    (sym (c.in-BlockOf.is ∙ ap (λ x. written.BlockOf x c.in-BlockOf.child) (sym c.bytes-in-Ok-part_of-6.ensures) ∙ ap (written.BlockOf c.bytes-in-Ok-part_of-6.result.now) (sym c.get-in-BlockOf.ensures)))
    (c.block.ensures ctx c.args.variables.now c.args.marking c.get-in-BlockOf.result.now scope (c.in-Ok-part_of-6.ensures ctx scope))

pub parts_of-returns-in-Err : goal.parts_of-returns-in-Err
parts_of-returns-in-Err t c = λ ctx scope.
    subst (λ x. IsFault c.behind.result (children 1 (map (judged ctx c.args.marking) x))) (around c.args.terms.now c.loop-term.term-index c.term-item.result c.loop-term-test.true c.term-item.is)
    (fault-behind ctx c.args.marking (take c.loop-term.term-index c.args.terms.now) c.loop-term.children c.term-item.result (drop (c.loop-term.term-index + 1) c.args.terms.now) c.in-Err.fault c.behind.result
    (c.loop-term.invariant ctx scope) (c.in-Err.ensures ctx scope) c.behind.ensures)

pub parts_of-loop-term-preserved : goal.parts_of-loop-term-preserved
parts_of-loop-term-preserved t c = λ ctx scope.
    subst (λ x. AreChildren ctx c.args.marking x c.add.new.self) (up-to c.args.terms.now c.loop-term.term-index c.term-item.result c.loop-term-test.true c.term-item.is)
    (more-children ctx c.args.marking (take c.loop-term.term-index c.args.terms.now) c.loop-term.children c.add.new.self c.term-item.result c.in-Ok.part
    (c.loop-term.invariant ctx scope) (c.in-Ok.ensures ctx scope) c.in_default.ensures)
