use Rattle.cert_reader.proofs.FactLists.{names_put, origins_put}
use Rattle.cert_reader.proofs.facts.Facts.add.Goals as goal

pub invariant_of-self : goal.invariant_of-self
invariant_of-self c = (
  names_put c.self.inside.names.keys c.put_fact.new.names.keys c.self.inside.list.items c.put_fact.new.list.items c.args.fact c.in-Ok.added c.self.invariant.0 c.in-Ok.ensures.is_new c.in-Ok.ensures.list c.in-Ok.ensures.names,
  origins_put c.self.inside.origins.keys c.put_fact.new.origins.keys c.self.inside.list.items c.put_fact.new.list.items c.args.fact c.in-Ok.added c.self.invariant.1 c.requires c.in-Ok.ensures.list c.in-Ok.ensures.origins,
)
