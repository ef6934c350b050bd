use Rattle.multiset_terms.proofs.compiling_guards.compile_guard.Goals as goal

pub returns-in-Ok : goal.returns-in-Ok
returns-in-Ok c = λ ctx scope.
    let known = c.in-Ok.ensures ctx scope in
    (known.typed, known.stands)
