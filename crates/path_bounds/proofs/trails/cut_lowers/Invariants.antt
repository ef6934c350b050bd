use Rattle.std.proofs.Common.{◌≡◌, take, vec_len, vec_capacity}
use Rattle.cert_model.specs.Paths.{lower_of}
use Rattle.path_bounds.specs.Following.{IsTrail}
use Rattle.path_bounds.proofs.trails.cut_lowers.Given as goal

abbrev pub invariant-loop-trail : goal.invariant-loop-trail
invariant-loop-trail l = record {
  trail : IsTrail 0 lower_of l.lower.items l.trail.items;
  rest : take l.left l.trail.items ≡ take l.left l.fn.trail.items;
  places : vec_len l.lower ≡ vec_len l.fn.lower;
  capacity : vec_capacity l.trail ≡ vec_capacity l.fn.trail;
}

abbrev pub decreases-loop-trail : goal.decreases-loop-trail
decreases-loop-trail l = vec_len l.trail
