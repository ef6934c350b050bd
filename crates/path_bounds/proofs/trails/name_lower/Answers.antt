use Rattle.std.proofs.Common.{arith, vec_len}
use Rattle.cert_model.specs.Paths.{lower_of}
use Rattle.path_bounds.proofs.trails.name_lower.Goals as goal
use Rattle.std.proofs.lemmas.List.{get_or_read_under}
use Rattle.path_bounds.proofs.Naming.{greater, lower_of-adds, named_trail}

pub returns-clause-trail : goal.returns-clause-trail
returns-clause-trail c =
    named_trail 0 lower_of greater lower_of-adds c.args.lower.now.items c.args.trail.now.items c.put.new.trail.items c.args.place c.args.count c.index-before.result.now c.max.result (omega (arith, c.requires.place)) c.requires.trail
    c.put.ensures.items (get_or_read_under c.args.lower.now.items c.args.place (vec_len c.args.lower.now) c.index-before.result.now 0 c.index-before.ensures c.requires.place (omega arith)) c.max.ensures
