use Rattle.std.proofs.Common.{arith, [], ◌∷◌, take, drop, map, ◌+◌, sym, ap, ◌∙◌, subst}
use Rattle.std.specs.Prelude.{Ok}
use Rattle.net_model.specs.declared.terms.Guard.TheVariants as written
use Rattle.multiset_terms.specs.GuardParts.{AreGuardParts, IsGuardAnswer, IsGuardPart}
use Rattle.multiset_terms.specs.Parts.{IsFault}
use Rattle.multiset_terms.specs.Typing.{children, guard_part, judged_guard, type_of_guard}
use Rattle.multiset_terms.proofs.Descent.{around, up-to}
use Rattle.multiset_terms.proofs.GuardDescent.{first-child-fault, guard-fault-behind, guard-node-fault, more-guards, second-child-fault}
use Rattle.net_model.proofs.Layers.{guard-And, guard-Imply, guard-Not, guard-Or}
use Rattle.multiset_terms.proofs.compiling_guards.+compiling_guards.Goals as goal

pub guard_part_of-returns-in-Constant : goal.guard_part_of-returns-in-Constant
guard_part_of-returns-in-Constant t c = λ ctx scope.
    subst (λ x. IsGuardPart ctx x c.constant.result) (sym c.in-Constant.is) (c.constant.ensures ctx)

pub guard_part_of-returns-in-Ok : goal.guard_part_of-returns-in-Ok
guard_part_of-returns-in-Ok t c = λ ctx scope.
    subst (λ x. IsGuardPart ctx x c.all_of.result) (sym (c.in-And.is ∙ ap written.And (sym c.as_slice.ensures)))
    (c.all_of.ensures ctx c.as_slice.result.now (c.in-Ok.ensures ctx scope))

pub guard_part_of-returns-in-Err : goal.guard_part_of-returns-in-Err
guard_part_of-returns-in-Err t c = λ ctx scope.
    subst (λ x. IsFault c.in-Err.fault (type_of_guard ctx x)) (sym (c.in-And.is ∙ ap written.And (sym c.as_slice.ensures)))
    (guard-node-fault ctx _ c.as_slice.result.now c.in-Err.fault (guard-And (guard_part ctx) c.as_slice.result.now) (c.in-Err.ensures ctx scope))

pub guard_part_of-returns-in-Ok-guard_parts_of : goal.guard_part_of-returns-in-Ok-guard_parts_of
guard_part_of-returns-in-Ok-guard_parts_of t c = λ ctx scope.
    subst (λ x. IsGuardPart ctx x c.some_of.result) (sym (c.in-Or.is ∙ ap written.Or (sym c.as_slice-in-Or.ensures)))
    (c.some_of.ensures ctx c.as_slice-in-Or.result.now (c.in-Ok-guard_parts_of.ensures ctx scope))

pub guard_part_of-returns-in-Err-guard_parts_of : goal.guard_part_of-returns-in-Err-guard_parts_of
guard_part_of-returns-in-Err-guard_parts_of t c = λ ctx scope.
    subst (λ x. IsFault c.in-Err-guard_parts_of.fault (type_of_guard ctx x)) (sym (c.in-Or.is ∙ ap written.Or (sym c.as_slice-in-Or.ensures)))
    (guard-node-fault ctx _ c.as_slice-in-Or.result.now c.in-Err-guard_parts_of.fault (guard-Or (guard_part ctx) c.as_slice-in-Or.result.now) (c.in-Err-guard_parts_of.ensures ctx scope))

pub guard_part_of-returns-in-Ok-guard_part_of : goal.guard_part_of-returns-in-Ok-guard_part_of
guard_part_of-returns-in-Ok-guard_part_of t c = λ ctx scope.
    subst (λ x. IsGuardAnswer ctx x c.not_that.result) (sym (c.in-Not.is ∙ ap written.Not (sym c.get.ensures)))
    (c.not_that.ensures ctx c.get.result.now (c.in-Ok-guard_part_of.ensures ctx scope))

pub guard_part_of-returns-in-Err-guard_part_of : goal.guard_part_of-returns-in-Err-guard_part_of
guard_part_of-returns-in-Err-guard_part_of t c = λ ctx scope.
    subst (λ x. IsFault c.behind.result (type_of_guard ctx x)) (sym (c.in-Not.is ∙ ap written.Not (sym c.get.ensures)))
    (first-child-fault (judged_guard ctx (written.Not c.get.result.now)) (judged_guard ctx c.get.result.now) [] (λ _. Ok tt) c.in-Err-guard_part_of.fault c.behind.result
    (guard-Not (guard_part ctx) c.get.result.now) (c.in-Err-guard_part_of.ensures ctx scope) c.behind.ensures)

pub guard_part_of-returns-in-Err-guard_part_of-2 : goal.guard_part_of-returns-in-Err-guard_part_of-2
guard_part_of-returns-in-Err-guard_part_of-2 t c = λ ctx scope.
    subst (λ x. IsFault c.behind-in-Err-guard_part_of-2.result (type_of_guard ctx x)) (sym (c.in-Imply.is ∙ ap (λ x. written.Imply x c.in-Imply.second) (sym c.get-in-Imply.ensures)))
    (first-child-fault (judged_guard ctx (written.Imply c.get-in-Imply.result.now c.in-Imply.second)) (judged_guard ctx c.get-in-Imply.result.now) (judged_guard ctx c.in-Imply.second ∷ []) (λ _. Ok tt)
    c.in-Err-guard_part_of-2.fault c.behind-in-Err-guard_part_of-2.result
    (guard-Imply (guard_part ctx) c.get-in-Imply.result.now c.in-Imply.second) (c.in-Err-guard_part_of-2.ensures ctx scope) c.behind-in-Err-guard_part_of-2.ensures)

pub guard_part_of-returns-in-Ok-guard_part_of-3 : goal.guard_part_of-returns-in-Ok-guard_part_of-3
guard_part_of-returns-in-Ok-guard_part_of-3 t c = λ ctx scope.
    subst (λ x. IsGuardAnswer ctx x c.implied.result)
    (sym (c.in-Imply.is ∙ ap (λ x. written.Imply x c.in-Imply.second) (sym c.get-in-Imply.ensures) ∙ ap (written.Imply c.get-in-Imply.result.now) (sym c.get-in-Imply-2.ensures)))
    (c.implied.ensures ctx c.get-in-Imply.result.now c.get-in-Imply-2.result.now (c.in-Ok-guard_part_of-2.ensures ctx scope) (c.in-Ok-guard_part_of-3.ensures ctx scope))

pub guard_part_of-returns-in-Err-guard_part_of-3 : goal.guard_part_of-returns-in-Err-guard_part_of-3
guard_part_of-returns-in-Err-guard_part_of-3 t c = λ ctx scope.
    let known = c.in-Ok-guard_part_of-2.ensures ctx scope in
    subst (λ x. IsFault c.behind-in-Err-guard_part_of-3.result (type_of_guard ctx x))
    (sym (c.in-Imply.is ∙ ap (λ x. written.Imply x c.in-Imply.second) (sym c.get-in-Imply.ensures) ∙ ap (written.Imply c.get-in-Imply.result.now) (sym c.get-in-Imply-2.ensures)))
    (second-child-fault (judged_guard ctx (written.Imply c.get-in-Imply.result.now c.get-in-Imply-2.result.now)) (judged_guard ctx c.get-in-Imply.result.now) (judged_guard ctx c.get-in-Imply-2.result.now) tt (λ _. Ok tt)
    c.in-Some.nodes c.in-Err-guard_part_of-3.fault c.behind-in-Err-guard_part_of-3.result
    (guard-Imply (guard_part ctx) c.get-in-Imply.result.now c.get-in-Imply-2.result.now) known.typed (omega (arith, known.nodes, c.in-Some.ensures.1))
    (c.in-Err-guard_part_of-3.ensures ctx scope) c.behind-in-Err-guard_part_of-3.ensures)

pub guard_part_of-returns-in-Compare : goal.guard_part_of-returns-in-Compare
guard_part_of-returns-in-Compare t c = λ ctx scope.
    subst (λ x. IsGuardAnswer ctx x c.compared_terms.result) (sym c.in-Compare.is) (c.compared_terms.ensures ctx scope)

pub guard_parts_of-returns-in-Err : goal.guard_parts_of-returns-in-Err
guard_parts_of-returns-in-Err t c = λ ctx scope.
    subst (λ x. IsFault c.behind.result (children 1 (map (judged_guard ctx) x))) (around c.args.guards.now c.loop-guard.guard-index c.guard-item.result c.loop-guard-test.true c.guard-item.is)
    (guard-fault-behind ctx (take c.loop-guard.guard-index c.args.guards.now) c.loop-guard.parts c.guard-item.result (drop (c.loop-guard.guard-index + 1) c.args.guards.now) c.in-Err.fault c.behind.result
    (c.loop-guard.invariant ctx scope) (c.in-Err.ensures ctx scope) c.behind.ensures)

pub guard_parts_of-loop-guard-preserved : goal.guard_parts_of-loop-guard-preserved
guard_parts_of-loop-guard-preserved t c = λ ctx scope.
    subst (λ x. AreGuardParts ctx x c.add.new.self) (up-to c.args.guards.now c.loop-guard.guard-index c.guard-item.result c.loop-guard-test.true c.guard-item.is)
    (more-guards ctx (take c.loop-guard.guard-index c.args.guards.now) c.loop-guard.parts c.add.new.self c.guard-item.result c.in-Ok.part
    (c.loop-guard.invariant ctx scope) (c.in-Ok.ensures ctx scope) c.in_default.ensures.conditions c.in_default.ensures.nodes c.in_default.ensures.few)

pub guard_parts_of-loop-guard-init : goal.guard_parts_of-loop-guard-init
guard_parts_of-loop-guard-init t c = λ ctx scope. c.new-parts.ensures ctx
