use Rattle.multiset_terms.proofs.Compared.{blocks-compared, others-compared}
use Rattle.multiset_terms.proofs.guards.comparison.Goals as goal

pub returns-in-Block : goal.returns-in-Block
returns-in-Block c = λ ctx t u distinct known other allowed.
    rw (c.is_equality.ensures, c.block_tree.ensures, c.block_tree-in-Block.ensures)
    (blocks-compared ctx c.args.order t u c.args.first c.args.second c.in-Block.partition known other c.in-Block.is allowed)

pub returns : goal.returns
returns c = λ ctx t u distinct known other allowed.
    others-compared ctx c.args.order t u c.args.first c.args.second distinct known other c.in_default.not-Block allowed
