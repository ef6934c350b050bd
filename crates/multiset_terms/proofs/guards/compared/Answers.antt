use Rattle.multiset_terms.proofs.Compared.{compared-fault, compared-part}
use Rattle.multiset_terms.proofs.guards.compared.Goals as goal

pub returns-in-Ok-compare_kinds : goal.returns-in-Ok-compare_kinds
returns-in-Ok-compare_kinds c = λ ctx t u distinct known other.
    compared-part ctx c.args.order t u c.args.first c.args.second _ known other c.in-Ok-compare_kinds.ensures
    (c.comparison.ensures ctx t u distinct known other c.in-Ok-compare_kinds.ensures) c.in-Ok.ensures

pub returns-in-Err-compare_kinds : goal.returns-in-Err-compare_kinds
returns-in-Err-compare_kinds c = λ ctx t u distinct known other.
    compared-fault ctx c.args.order t u c.args.first c.args.second c.in-Err-compare_kinds.rule known other c.in-Err-compare_kinds.ensures
