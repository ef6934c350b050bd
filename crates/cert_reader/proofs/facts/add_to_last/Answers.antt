use Rattle.std.proofs.Common.{◌∙◌, ap, sym, ◌++◌, ◌∷◌, []}
use Rattle.cert_reader.specs.Reading.{with_step}
use Rattle.cert_reader.proofs.FactLists.{with_step_of_grown}
use Rattle.cert_reader.proofs.facts.add_to_last.Goals as goal

pub returns : goal.returns
returns c =
    c.in_ok-push.ensures.items
    ∙ ap (λ f. c.pop.new.self.items ++ f ∷ []) c.in_ok-fact_with_step.ensures
    ∙ sym (with_step_of_grown c.pop.new.self.items c.in-Some.last c.args.step)
    ∙ ap (λ fs. with_step fs c.args.step) (sym c.in-Some.ensures.items)
