use Rattle.std.proofs.Common.{refl}
use Rattle.trap_siphon.specs.Sets.{set_of}
use Rattle.trap_siphon.specs.Stages.{has_inputs, next_stage, stage}
use Rattle.reductions.specs.Numbers.{numbers}
use Rattle.reductions.specs.Rounds.{undead_over, unchanged, unblocked, active, rounds}
use Rattle.reductions.specs.Reduced.{are_equal, kept, reduced_by}
use Rattle.cert_laws.proofs.laws.examples_are_right.Goals as goal

pub returns : goal.returns
unfolding set_of numbers has_inputs next_stage stage undead_over unchanged unblocked active rounds are_equal kept reduced_by
returns c = record {
  places = refl;
  whole = refl;
  reduced = refl;
  kept = refl;
  constant = refl;
  coefficients = refl;
}
