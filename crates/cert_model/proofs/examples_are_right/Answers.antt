use Rattle.std.proofs.Common.{refl}
use Rattle.cert_model.proofs.examples_are_right.Goals as goal

pub returns : goal.returns
returns c = record {
  ring_holds = refl;
  ring_fails = refl;
  ring_is_never = refl;
  merged_fails = refl;
  eaters = refl;
  no_places = refl;
  source_is_fireable = refl;
  earlier_fact = refl;
  wrong_factor = refl;
  either = refl;
  wide_bound = refl;
  cancelled = refl;
  wide_times_nothing = refl;
  sign_before_range = refl;
  known = refl;
  no_colour = refl;
  no_binding = refl;
  later_fact = refl;
  bound = refl;
  no_step_line = refl;
  trap = refl;
  empty_trap = refl;
  split = refl;
  each = refl;
  cases = refl;
  missing = refl;
  clash = refl;
  cases_of_none = refl;
  each_of_none = refl;
  second_section = refl;
  wide = refl;
  not_wide = refl;
  costs = refl;
  limit = refl;
  wrong_sign = refl;
  no_upper_bound = refl;
  wide_constant = refl;
  fits_just = refl;
}
