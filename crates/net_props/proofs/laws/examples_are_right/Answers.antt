use Rattle.std.proofs.Common.{ℕ, ◌+◌, ◌*◌, List, [], ◌∷◌, sum_by, refl, ap, ◌∙◌}
use Rattle.std.specs.Prelude.{slice_index}
use Rattle.std.specs.List.{range_with_len}
use Rattle.net_firing.specs.Markings.{initial}
use Rattle.net_firing.proofs.Maps.{starts}
use Rattle.net_props.specs.Examples.{two_places}
use Rattle.mcc_model.specs.declared.formulas.Count.TheVariants.{Tokens}
use Rattle.net_props.specs.Resolved.{weight}
use Rattle.net_props.proofs.Counts.{value-is}
use Rattle.net_props.proofs.laws.examples_are_right.Goals as goal

pub returns : goal.returns
returns c = record {
  counted_twice = value-is two_places (initial two_places) 5 (Tokens (1 ∷ 0 ∷ 1 ∷ [])) refl
      ∙ ap (λ (counts : List ℕ). 0 + sum_by (λ q. weight two_places (Tokens (1 ∷ 0 ∷ 1 ∷ [])) q * slice_index counts q) (range_with_len 0 5)) (starts two_places).1;
  coefficients = refl;
  constant = refl;
  always = λ f. refl;
  never = λ f. refl;
}
