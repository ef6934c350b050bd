use Rattle.std.proofs.Common.{◌∙◌}
use Rattle.reductions.specs.Rounds.{constant, live}
use Rattle.reductions.specs.Reduced.{kept, last_active}
use Rattle.reductions.proofs.Reduces.{reduced_places, with-without, without-with}
use Rattle.reductions.proofs.laws.lifted_is_projected.Goals as goal

pub returns-clause-lifted : goal.returns-clause-lifted
returns-clause-lifted c = λ net counts long. without-with net (constant net (last_active net)) counts (long ∙ reduced_places net (constant net (last_active net)) (kept net (constant net (last_active net)) (live net (last_active net))))

pub returns-clause-projected : goal.returns-clause-projected
returns-clause-projected c = λ net marking keeps. with-without net (constant net (last_active net)) marking keeps
