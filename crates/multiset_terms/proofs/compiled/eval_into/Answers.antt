use Rattle.std.proofs.Common.{◌<◌, ◌≤◌, ◌^◌, ◌*◌, ◌+◌, ap, ◌∙◌, sym, subst, arith}
use Rattle.multiset_terms.specs.Trees.{reading}
use Rattle.multiset_terms.proofs.Adding.{added-den, if-done}
use Rattle.multiset_terms.proofs.compiled.eval_into.Goals as goal

pub add_value-requires-clause-sound : goal.add_value-requires-clause-sound
add_value-requires-clause-sound c =
    let known = c.requires.evaluated in
    (known.stands.values known.binding c.args.binding.now known.binds known.no_block).sound

pub add_value-requires-clause-fits : goal.add_value-requires-clause-fits
add_value-requires-clause-fits c =
    let known = c.requires.evaluated in
    subst (λ n. c.args.scale.times * n < 2 ^ 63) (sym (known.stands.weights known.binding c.args.binding.now known.binds known.no_block)) c.requires.fits

pub add_value-requires-clause-room : goal.add_value-requires-clause-room
add_value-requires-clause-room c =
    let known = c.requires.evaluated in
    subst (λ n. c.args.scale.offset + n ≤ 2 ^ 32) (sym (known.stands.values known.binding c.args.binding.now known.binds known.no_block).size) c.requires.room

pub returns-clause-value : goal.returns-clause-value
returns-clause-value c = λ ctx marking t b stands binds.
    if-done c.add_value.result _ _ (λ known. added-den ctx c.args.term.now.sort t b c.args.scale (reading c.args.binding.now c.args.term.now.tree) c.args.cells.now.items c.add_value.new.cells.items
    (stands.values b c.args.binding.now binds c.requires.evaluated.no_block) known) c.add_value.ensures.value

pub returns-clause-negative : goal.returns-clause-negative
returns-clause-negative c = λ ctx marking t b stands binds negative.
    let agrees = stands.values b c.args.binding.now binds c.requires.evaluated.no_block in
    sym agrees.defined ∙ c.add_value.ensures.negative negative

pub returns-clause-elements : goal.returns-clause-elements
returns-clause-elements c = λ ctx marking t b stands binds.
    if-done c.add_value.result _ _ (λ known.
    let all = known.gains.elements in
    let same = ap (λ n. c.args.scale.times * n) (stands.weights b c.args.binding.now binds c.requires.evaluated.no_block ∙ sym stands.gross_total) in
    omega (arith, all, same)) c.add_value.ensures.value
