use Rattle.plain_judge.proofs.FirstFailing.{all_keep}
use Rattle.plain_judge.proofs.searches.first_failing.Goals as goal

pub returns-clause-first : goal.returns-clause-first
returns-clause-first c =
    all_keep c.args.flow.now.ids c.args.flow.now.flow.weights c.args.incidences.now.list.items c.args.coefficients.now c.args.system.now c.visit_places.new.marks c.args.mark c.visit_places.result
    c.requires.ids c.requires.spread c.requires.index.listed c.visit_places.ensures.first c.visit_places.ensures.tested
