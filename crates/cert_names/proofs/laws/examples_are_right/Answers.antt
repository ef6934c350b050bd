use Rattle.std.proofs.Common.{refl}
use Rattle.trap_siphon.specs.Sets.{set_of}
use Rattle.trap_siphon.specs.Stages.{has_inputs, next_stage, stage}
use Rattle.reductions.specs.Numbers.{numbers}
use Rattle.reductions.specs.Rounds.{undead_over, unchanged, unblocked, active, rounds}
use Rattle.reductions.specs.Reduced.{are_equal, kept, reduced_by}
use Rattle.cert_names.proofs.laws.examples_are_right.Goals as goal

pub returns : goal.returns
unfolding set_of numbers has_inputs next_stage stage undead_over unchanged unblocked active rounds are_equal kept reduced_by
returns c = record {
  whole = refl;
  coloured = refl;
  no_colour = refl;
  no_place = refl;
  there = refl;
  not_there = refl;
  added = refl;
  none_missing = refl;
  own_name = refl;
  no_fact = refl;
  shown = refl;
  not_shown = refl;
  no_step = refl;
  split = refl;
  trap = refl;
  constant_trap = refl;
  constant_clash = refl;
}
