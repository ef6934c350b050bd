use Rattle.multiset_terms.proofs.over.compile_over.Goals as goal

pub returns-in-Ok-clause-compiled : goal.returns-in-Ok-clause-compiled
returns-in-Ok-clause-compiled c = λ ctx scope. c.finished_over.ensures.compiled ctx c.args.marking c.args.term.now (c.in-Ok.ensures ctx scope)
