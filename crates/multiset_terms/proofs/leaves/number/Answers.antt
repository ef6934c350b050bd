use Rattle.std.proofs.Common.{rules, FitsSigned, w64, to_z-of_z, None, Some, subst}
use Rattle.colour_sorts.specs.declared.sorts.Colour.TheVariants as colour
use Rattle.colour_sorts.specs.Colours.{colours}
use Rattle.colour_sorts.specs.Places.{IsPlace}
use Rattle.net_model.specs.declared.terms.Term.TheVariants as written
use Rattle.multiset_terms.specs.Values.{colours_of}
use Rattle.multiset_terms.proofs.LeafMakers.{sized-by}
use Rattle.multiset_terms.proofs.Operators.{broken-number, number-in, number-is, number-out, number-refused}
use Rattle.multiset_terms.proofs.leaves.number.Goals as goal

pub returns-in-Err : goal.returns-in-Err
returns-in-Err c = λ ctx v marking scope. broken-number ctx marking c.args.span.now c.args.value c.in-Err.fault (c.in-Err.ensures.found ctx v scope)

pub returns-in-Some : goal.returns-in-Some
returns-in-Some c = λ ctx v marking scope.
    let s = c.in-Ok.found.sort in
    let value = c.args.value in
    let known = c.in-Ok.ensures.found ctx v scope in
    let placed : IsPlace (colours_of ctx s) (colour.Number value) (Some c.in-Some.index) =
    subst (λ d. IsPlace (colours d.constants s) (colour.Number value) (Some c.in-Some.index)) scope.domain.is
    (let fits : FitsSigned w64 value = search rules in simp to_z-of_z at c.in-Some.ensures) in
    let inside = number-in ctx s c.args.span.now value c.in-Some.index known.1 placed in
    c.constant.ensures ctx marking (written.Number value c.args.span.now) (colour.Number value) scope.distinct
    (number-is ctx marking s c.args.span.now value known.1 known.0 inside) (sized-by ctx s _ c.in-Ok.found.size known.1 known.2) placed.found

pub returns-in-None : goal.returns-in-None
returns-in-None c = λ ctx v marking scope.
    let s = c.in-Ok.found.sort in
    let value = c.args.value in
    let known = c.in-Ok.ensures.found ctx v scope in
    let placed : IsPlace (colours_of ctx s) (colour.Number value) None =
    subst (λ d. IsPlace (colours d.constants s) (colour.Number value) None) scope.domain.is
    (let fits : FitsSigned w64 value = search rules in simp to_z-of_z at c.in-None.ensures) in
    number-refused ctx marking c.args.span.now value known.0 (number-out ctx s c.args.span.now value known.1 placed)
