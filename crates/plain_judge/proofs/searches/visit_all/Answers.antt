use Rattle.std.proofs.Common.{get_or, arith}
use Rattle.std.proofs.lemmas.List.{get_or_default}
use Rattle.plain_judge.specs.declared.incidences.Incidence.{Incidence}
use Rattle.plain_judge.proofs.FirstFailing.{tested_more}
use Rattle.plain_judge.proofs.searches.visit_all.Goals as goal

pub loop-incidence-preserved : goal.loop-incidence-preserved
loop-incidence-preserved c =
    let item : Incidence = get_or c.args.incidences.now c.loop-incidence.incidence-index (record { place = 0; transition = 0 }) in
    let lower = c.visit-least.ensures.lower in (
      c.visit-least.ensures.low,
      c.visit-least.ensures.after,
      omega (arith, lower, c.loop-incidence.invariant.2),
      tested_more c.args.coefficients.now c.args.system.now c.args.incidences.now c.loop-incidence.incidence-index item c.loop-incidence.least c.visit-least.result
          c.loop-incidence-test.true (get_or_default c.args.incidences.now c.loop-incidence.incidence-index (record { place = 0; transition = 0 }) item c.loop-incidence-test.true)
          lower c.visit-least.ensures.tested c.loop-incidence.invariant.3,
    )
