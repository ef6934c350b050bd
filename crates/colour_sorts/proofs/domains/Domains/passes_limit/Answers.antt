use Rattle.colour_sorts.proofs.domains.Domains.passes_limit.Goals as goal

pub returns : goal.returns
returns c = c.passes_limit.ensures c.args.self.now.constants c.args.sort.now c.facts.ensures.facts
