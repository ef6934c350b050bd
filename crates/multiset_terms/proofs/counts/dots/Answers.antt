use Rattle.std.proofs.Common.{subst, sym, false}
use Rattle.colour_sorts.specs.declared.sorts.Sort.TheVariants as sort
use Rattle.net_model.specs.declared.terms.Term.TheVariants as written
use Rattle.multiset_terms.specs.declared.trees.Tree.TheVariants as tree
use Rattle.multiset_terms.specs.Standing.{StandsFor}
use Rattle.multiset_terms.proofs.DotCounts.{dots-stand}
use Rattle.multiset_terms.proofs.counts.dots.Goals as goal

pub returns-clause-stands : goal.returns-clause-stands
returns-clause-stands c = λ ctx marking distinct.
    subst (λ d. StandsFor ctx marking (written.NumberOf c.args.number written.Dot) (record { tree = tree.Times c.args.number d; sort = sort.Dot; block = false; gross = c.args.number; support = 1 }))
    (sym c.in_ok-dot.ensures) (dots-stand ctx marking c.args.number c.requires distinct)
