use Rattle.std.proofs.Common.{rules, arith, ◌≡◌, ◌∙◌, ap, sym, true, false, min, FitsSigned, w64, to_z-of_z}
use Rattle.std.specs.Prelude.{int_lt}
use Rattle.colour_sorts.proofs.FactsOf.{facts-Range, span-empty, span-steps}
use Rattle.colour_sorts.proofs.judging.range_facts.Goals as goal

pub returns-then-span-clause-facts : goal.returns-then-span-clause-facts
returns-then-span-clause-facts c = λ constants.
    (let fits : FitsSigned w64 c.args.span.first = search rules in
    let fits2 : FitsSigned w64 c.args.span.last = search rules in
    let test : int_lt c.args.span.last c.args.span.first ≡ true = simp to_z-of_z at c.if-span.true in
    let leaf = c.leaf-empty.ensures in
    facts-Range constants c.args.span _ (sym test) (ap (λ f. f.lacks_constants) leaf) (ap (λ f. f.lacks_components) leaf)
    (ap (λ f. f.size) leaf ∙ ap (min 1048577) (sym (span-empty c.args.span test))) (ap (λ f. f.sorts) leaf) (ap (λ f. f.depth) leaf))

pub returns-clause-facts : goal.returns-clause-facts
returns-clause-facts c = λ constants.
    (let fits : FitsSigned w64 c.args.span.first = search rules in
    let fits2 : FitsSigned w64 c.args.span.last = search rules in
    let test : int_lt c.args.span.last c.args.span.first ≡ false = simp to_z-of_z at c.if-span.false in
    let leaf = c.leaf.ensures in
    let steps = simp to_z-of_z at c.abs_diff.ensures in
    let long = span-steps c.args.span c.abs_diff.result test steps in
    facts-Range constants c.args.span c.leaf.result (ap (λ f. f.is_upside_down) leaf ∙ sym test) (ap (λ f. f.lacks_constants) leaf) (ap (λ f. f.lacks_components) leaf)
    (ap (λ f. f.size) leaf ∙ omega (arith, c.min.ensures, long)) (ap (λ f. f.sorts) leaf) (ap (λ f. f.depth) leaf))
