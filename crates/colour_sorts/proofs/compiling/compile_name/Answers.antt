use Rattle.std.proofs.Common.{sym, ◌∙◌}
use Rattle.colour_sorts.proofs.Compiled.{compiled-Named, uncompiled-later, compiled-missing}
use Rattle.colour_sorts.proofs.compiling.compile_name.Goals as goal

pub returns-in-None : goal.returns-in-None
returns-in-None c = λ at. compiled-missing c.args.ids.now c.args.compiled.now at c.args.name.now (sym c.find.ensures ∙ c.in-None.is)

pub returns-in-Ok : goal.returns-in-Ok
returns-in-Ok c = λ at sorts steps e h.
    (let found = sym c.find.ensures ∙ c.in-Some.is in
    c.in-Ok.ensures ∙ compiled-Named c.args.ids.now c.args.compiled.now at c.args.name.now c.in-Some.at c.in-Some-get.sort.now found c.in-Some-get.ensures sorts steps e h)

pub returns-in-None-get : goal.returns-in-None-get
returns-in-None-get c = λ at.
    (let found = sym c.find.ensures ∙ c.in-Some.is in
    uncompiled-later c.args.ids.now c.args.compiled.now c.args.name.now c.in-Some.at found c.in-None-get.ensures)
