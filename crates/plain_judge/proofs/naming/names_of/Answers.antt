use Rattle.std.proofs.Common.{◌++◌, ◌∷◌, [], List, ℕ, ap, subst, sym, ◌∙◌}
use Rattle.plain_rows.proofs.Distinct.{added_more, distinct_push}
use Rattle.plain_model.specs.declared.certificates.Flow.{Flow}
use Rattle.plain_model.specs.Plain.{AreDistinct}
use Rattle.plain_judge.proofs.naming.names_of.Goals as goal

pub loop-flow-preserved : goal.loop-flow-preserved
loop-flow-preserved c =
    let added = rw (c.in-Ok-New.field-0-is) at c.in-Ok-New.ensures.added in
    let names = c.loop-flow.names in
    let name = c.bytes.result.now in
    let flow = c.flow-item.result in (
      added_more (λ (f : Flow). f.name) [] names c.add.new.self c.args.flows.now c.loop-flow.flow-index flow c.loop-flow-test.true c.flow-item.is c.loop-flow.invariant.0
          (added.2 ∙ ap (λ (n : List ℕ). names ++ n ∷ []) c.bytes.ensures),
      subst AreDistinct (sym added.2) (distinct_push names name c.loop-flow.invariant.1 added.0),
    )
