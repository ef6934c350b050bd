use Rattle.multiset_terms.proofs.ListMakers.{broken-sum, sum-children}
use Rattle.multiset_terms.proofs.making.sum.Goals as goal

pub returns-in-Err : goal.returns-in-Err
returns-in-Err c = λ ctx marking ts known. broken-sum ctx marking ts c.args.children c.in-Err.rule known c.in-Err.ensures

pub returns : goal.returns
returns c = λ ctx marking ts known. sum-children ctx marking ts c.args.children c.in-Ok.kind c.heavy_node.result known c.in-Ok.ensures c.heavy_node.ensures
