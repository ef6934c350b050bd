use Rattle.std.proofs.Common.{◌∙◌, ap}
use Rattle.cert_reader.specs.Reading.{last_fact, takes_steps}
use Rattle.cert_reader.proofs.FactLists.{last_by_index}
use Rattle.cert_reader.proofs.facts.Facts.takes_steps.Goals as goal

pub returns-in-Some : goal.returns-in-Some
returns-in-Some c =
    c.is_bound_kind.ensures
    ∙ ap takes_steps (c.in-Some.ensures.value ∙ last_by_index c.deref.result.now ∙ ap last_fact (c.deref.ensures.value ∙ c.self.view_is))
