use Rattle.net_model.specs.declared.terms.Term.TheVariants as written
use Rattle.multiset_terms.proofs.LeafMakers.{broken-all, every-is, sized-by}
use Rattle.multiset_terms.proofs.leaves.all.Goals as goal

pub returns-in-Ok : goal.returns-in-Ok
returns-in-Ok c = λ ctx v marking scope.
    let known = c.in-Ok.ensures.found ctx v scope in
    c.every.ensures ctx marking (written.All c.args.sort.now) scope.distinct (every-is ctx marking c.args.sort.now c.in-Ok.found.sort known.0 known.1) (sized-by ctx c.in-Ok.found.sort _ c.in-Ok.found.size known.1 known.2)

pub returns-in-Err : goal.returns-in-Err
returns-in-Err c = λ ctx v marking scope. broken-all ctx marking c.args.sort.now c.in-Err.fault (c.in-Err.ensures.found ctx v scope)
