use Rattle.std.proofs.Common.{arith, vec_len, Some, None}
use Rattle.cert_model.specs.Paths.{least, upper_of}
use Rattle.path_bounds.proofs.trails.name_upper.Goals as goal
use Rattle.std.proofs.lemmas.List.{get_or_read_under}
use Rattle.path_bounds.proofs.Naming.{upper_of-adds, named_trail}

pub returns-clause-trail : goal.returns-clause-trail
returns-clause-trail c =
    named_trail None upper_of least upper_of-adds c.args.upper.now.items c.args.trail.now.items c.put.new.trail.items c.args.place c.args.count c.index-before.result.now (Some c.least.result) (omega (arith, c.requires.place)) c.requires.trail
    c.put.ensures.items (get_or_read_under c.args.upper.now.items c.args.place (vec_len c.args.upper.now) c.index-before.result.now None c.index-before.ensures c.requires.place (omega arith)) c.least.ensures
