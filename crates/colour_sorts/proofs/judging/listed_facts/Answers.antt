use Rattle.std.proofs.Common.{arith, ap, ◌∙◌}
use Rattle.std.specs.Prelude.{◌==◌}
use Rattle.colour_sorts.proofs.FactsOf.{facts-Listed, facts-Cyclic}
use Rattle.colour_sorts.proofs.judging.listed_facts.Goals as goal

pub returns-clause-listed : goal.returns-clause-listed
returns-clause-listed c = λ constants at e.
    (let leaf = c.leaf-listed.ensures in
    facts-Listed constants at _ (ap (λ f. f.is_upside_down) leaf) (ap (λ n. n == 0) e) (ap (λ f. f.lacks_components) leaf)
    (ap (λ f. f.size) leaf ∙ omega (arith, c.min.ensures, e)) (ap (λ f. f.sorts) leaf) (ap (λ f. f.depth) leaf))

pub returns-clause-cyclic : goal.returns-clause-cyclic
returns-clause-cyclic c = λ constants at e.
    (let leaf = c.leaf-listed.ensures in
    facts-Cyclic constants at _ (ap (λ f. f.is_upside_down) leaf) (ap (λ n. n == 0) e) (ap (λ f. f.lacks_components) leaf)
    (ap (λ f. f.size) leaf ∙ omega (arith, c.min.ensures, e)) (ap (λ f. f.sorts) leaf) (ap (λ f. f.depth) leaf))
