-- What holds of each element of a list.
use Rattle.std.specs.Prelude.{Bool, List, [], ◌∷◌}
use Rattle.std.specs.Bool.{⊤}
use Rattle.std.specs.List.{list_all}

abbrev pub are_all : List Bool → Bool
are_all tests = list_all (λ b. b) tests

-- each element of a list
abbrev pub Each : {A : Type 0} → (A → Type 0) → List A → Type 0
Each P [] = ⊤
Each P (x ∷ xs) = P x × Each P xs
