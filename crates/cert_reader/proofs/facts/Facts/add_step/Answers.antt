use Rattle.std.proofs.Common.{◌∙◌, ap, sym, ◌≡◌, true, false}
use Rattle.std.specs.List.{list_any}
use Rattle.cert_lines.specs.Order.{origin_of}
use Rattle.cert_reader.specs.Reading.{last_fact, names_of, origins_of, same_origin, takes_steps}
use Rattle.cert_reader.proofs.FactLists.{names_with_step, new_origin}
use Rattle.cert_reader.proofs.facts.Facts.add_step.Goals as goal

pub invariant_of-self : goal.invariant_of-self
invariant_of-self c =
    let facts = c.self.inside.list.items in
    let step = c.args.step in
    let fresh : list_any (same_origin (origin_of step)) (origins_of (last_fact facts)) ≡ false =
    ap (λ fs. list_any (same_origin (origin_of step)) (origins_of (last_fact fs))) c.self.view_is ∙ c.requires.fresh in
    let bound : takes_steps (last_fact facts) ≡ true = ap (λ fs. takes_steps (last_fact fs)) c.self.view_is ∙ c.requires.bound in (
      c.self.invariant.0 ∙ sym (names_with_step facts step) ∙ ap names_of (sym c.in-Ok.ensures.list),
      new_origin c.self.inside.origins.keys facts step c.put_step.new.origins.keys c.self.invariant.1 bound fresh c.in-Ok.ensures.origins
          ∙ ap (λ fs. origins_of (last_fact fs)) (sym c.in-Ok.ensures.list),
    )
