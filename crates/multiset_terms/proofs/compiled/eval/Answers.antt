use Rattle.std.proofs.Common.{◌<◌, ◌≤◌, ◌^◌, ap, ◌∙◌, sym, subst, arith}
use Rattle.multiset_terms.specs.Standing.{IsDen}
use Rattle.multiset_terms.specs.Trees.{reading}
use Rattle.multiset_terms.proofs.Adding.{err-moves, value-den}
use Rattle.multiset_terms.specs.declared.faults.EvalFault.TheVariants as fault
use Rattle.multiset_terms.proofs.compiled.eval.Goals as goal

pub cells_of-requires-clause-sound : goal.cells_of-requires-clause-sound
cells_of-requires-clause-sound c = (c.requires.stands.values c.requires.binding c.args.binding.now c.requires.binds c.requires.no_block).sound

pub cells_of-requires-clause-fits : goal.cells_of-requires-clause-fits
cells_of-requires-clause-fits c = let same = c.requires.stands.weights c.requires.binding c.args.binding.now c.requires.binds c.requires.no_block in let light = c.requires.stands.light in omega (arith, same, light)

pub cells_of-requires-clause-room : goal.cells_of-requires-clause-room
cells_of-requires-clause-room c =
    let same = (c.requires.stands.values c.requires.binding c.args.binding.now c.requires.binds c.requires.no_block).size in
    let few = c.requires.stands.limit c.requires.no_block in
    omega (arith, same, few)

pub returns-in-Err-clause-negative : goal.returns-in-Err-clause-negative
returns-in-Err-clause-negative c = λ ctx marking t b stands binds negative.
    let agrees = stands.values b c.args.binding.now binds c.requires.no_block in
    sym agrees.defined ∙ c.in-Err.ensures.negative (err-moves c.in-Err.fault fault.Negative negative)

pub returns-clause-value : goal.returns-clause-value
returns-clause-value c = λ ctx marking t b stands binds.
    let row = c.in_ok-row_of.ensures ∙ c.as_slice.ensures.value in
    subst (IsDen ctx c.args.term.now.sort t b) (sym row)
    (value-den ctx c.args.term.now.sort t b (reading c.args.binding.now c.args.term.now.tree) c.in-Ok.cells.items (stands.values b c.args.binding.now binds c.requires.no_block) c.in-Ok.ensures.value)
