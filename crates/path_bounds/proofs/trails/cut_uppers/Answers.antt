use Rattle.std.proofs.Common.{◌∙◌, arith, None}
use Rattle.cert_model.specs.Paths.{least, upper_of}
use Rattle.path_bounds.proofs.trails.cut_uppers.Goals as goal
use Rattle.path_bounds.proofs.Naming.{all_taken, upper_of-adds, undone_trail, cut_short}

pub loop-trail-preserved-in-Some : goal.loop-trail-preserved-in-Some
loop-trail-preserved-in-Some c = record {
  trail = undone_trail None upper_of least upper_of-adds c.loop-trail.upper.items c.loop-trail.trail.items c.pop.new.self.items c.in-Some.change c.loop-trail.invariant.trail c.in-Some.ensures.items;
  rest = cut_short c.loop-trail.trail.items c.pop.new.self.items c.in-Some.change c.args.left (omega (arith, c.loop-trail-test.true)) c.in-Some.ensures.items ∙ c.loop-trail.invariant.rest;
  places = c.loop-trail.invariant.places;
  capacity = c.pop.ensures.capacity ∙ c.loop-trail.invariant.capacity;
}

pub returns-clause-named : goal.returns-clause-named
returns-clause-named c =
    all_taken c.loop-trail.trail.items c.args.trail.now.items c.args.left (omega (arith, c.loop-trail-test.false)) c.loop-trail.invariant.rest
