-- Instances of the definitions that were worked out by hand.
use Rattle.std.specs.Prelude.{◌≡◌, [], ◌∷◌}
use Rattle.bindings.specs.Listed.{bindings, digits, number_of, product}

pub record WorkedInstances : Type 0 where
  -- without variables there is one binding
  pub none : bindings [] ≡ [] ∷ []
  pub one : bindings (1 ∷ []) ≡ (0 ∷ []) ∷ []
  pub six : bindings (2 ∷ 3 ∷ []) ≡ (0 ∷ 0 ∷ []) ∷ (0 ∷ 1 ∷ []) ∷ (0 ∷ 2 ∷ []) ∷ (1 ∷ 0 ∷ []) ∷ (1 ∷ 1 ∷ []) ∷ (1 ∷ 2 ∷ []) ∷ []
  -- a variable without values has none, wherever it stands
  pub without : bindings (3 ∷ 0 ∷ []) ≡ []
  pub without_first : bindings (0 ∷ 3 ∷ []) ≡ []
  pub counted : product (2 ∷ 3 ∷ 4 ∷ []) ≡ 24
  pub last : digits (2 ∷ 3 ∷ 4 ∷ []) 23 ≡ 1 ∷ 2 ∷ 3 ∷ []
  pub middle : digits (2 ∷ 3 ∷ 4 ∷ []) 13 ≡ 1 ∷ 0 ∷ 1 ∷ []
  pub back : number_of (2 ∷ 3 ∷ 4 ∷ []) (1 ∷ 0 ∷ 1 ∷ []) ≡ 13
