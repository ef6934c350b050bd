use Rattle.multiset_terms.proofs.compiling.compile_term.Goals as goal

pub returns-in-Ok : goal.returns-in-Ok
returns-in-Ok c = λ ctx scope. c.finished.ensures.compiled ctx c.args.marking c.args.term.now (c.in-Ok.ensures ctx scope)
