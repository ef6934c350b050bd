use Rattle.std.proofs.Common.{arith, false, [], ◌∷◌}
use Rattle.multiset_terms.specs.Typing.{can_be_compared, guard_part, judged}
use Rattle.multiset_terms.proofs.GuardDescent.{first-child-fault, second-child-fault}
use Rattle.net_model.proofs.Layers.{fold-Compare}
use Rattle.multiset_terms.proofs.compiling_guards.compared_terms.Goals as goal

pub returns-in-Err : goal.returns-in-Err
returns-in-Err c = λ ctx scope.
    first-child-fault _ (judged ctx false c.args.first.now) (judged ctx false c.args.second.now ∷ []) (can_be_compared c.args.order) c.in-Err.fault c.behind.result
    (fold-Compare (guard_part ctx) c.args.order c.args.first.now c.args.second.now) (c.in-Err.ensures ctx scope) c.behind.ensures

pub returns-in-Ok-part_of : goal.returns-in-Ok-part_of
returns-in-Ok-part_of c = λ ctx scope.
    c.compared.ensures ctx c.args.first.now c.args.second.now scope.distinct (c.in-Ok.ensures ctx scope) (c.in-Ok-part_of.ensures ctx scope)

pub returns-in-Err-part_of : goal.returns-in-Err-part_of
returns-in-Err-part_of c = λ ctx scope.
    let known = c.in-Ok.ensures ctx scope in
    second-child-fault _ (judged ctx false c.args.first.now) (judged ctx false c.args.second.now) c.in-Ok.part.kind (can_be_compared c.args.order) c.in-Some.nodes c.in-Err-part_of.fault c.behind-in-Err-part_of.result
    (fold-Compare (guard_part ctx) c.args.order c.args.first.now c.args.second.now) known.counted.typed (omega (arith, known.counted.nodes, c.in-Some.ensures.1))
    (c.in-Err-part_of.ensures ctx scope) c.behind-in-Err-part_of.ensures
