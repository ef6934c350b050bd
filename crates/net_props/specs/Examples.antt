-- A small net, and what the definitions give of a formula.
use Rattle.std.specs.Prelude.{◌≡◌, ℕ, [], ◌∷◌, map, true, false, pos, negsuc}
use Rattle.net_firing.specs.Coloured.{ColouredNet, ColouredPlace}
use Rattle.net_firing.specs.Markings.{initial}
use Rattle.mcc_model.specs.declared.formulas.Formula.{Formula}
use Rattle.mcc_model.specs.declared.formulas.Count.TheVariants.{Number, Tokens}
use Rattle.net_props.specs.Properties.{Not, stated, invariant_of, value}
use Rattle.net_props.specs.Resolved.{difference}

abbrev place : ℕ → ℕ → ColouredPlace
place size tokens = record { size = size; initial = λ k. tokens }

-- three colours with 2 tokens each, and two with 5
abbrev pub two_places : ColouredNet
two_places = record { places = place 3 2 ∷ place 2 5 ∷ []; transitions = [] }

pub record ExamplesAreRight : Type 0 where
  pub counted_twice : value two_places (initial two_places) (Tokens (1 ∷ 0 ∷ 1 ∷ [])) ≡ 26
  pub coefficients : map (difference two_places (Tokens (1 ∷ 0 ∷ 1 ∷ [])) (Tokens (0 ∷ 0 ∷ 0 ∷ []))).coefficient (0 ∷ 2 ∷ 3 ∷ 4 ∷ []) ≡ pos 2 ∷ pos 2 ∷ negsuc 1 ∷ negsuc 1 ∷ []
  pub constant : (difference two_places (Number 7) (Number 9)).constant ≡ pos 9 ∷ negsuc 6 ∷ []
  pub always : (f : Formula) → invariant_of (record { universal = true; formula = f }) ≡ stated f
  pub never : (f : Formula) → invariant_of (record { universal = false; formula = f }) ≡ Not (stated f)
