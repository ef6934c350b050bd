-- Three items, for tests: the first adds a hypothesis, a choice of the other two and a choice of nothing, the second lower bounds, the
-- third upper bounds.
use Rattle.std.specs.Prelude.{ℕ, List, [], ◌∷◌}
use Rattle.case_tree.specs.Agendas.{Added}

abbrev pub three_items : List (ℕ × ℕ) → List (ℕ × ℕ) → List Added
three_items lowers uppers =
    record { hypotheses = 7 ∷ []; choices = (1 ∷ 2 ∷ []) ∷ [] ∷ []; lowers = []; uppers = [] }
    ∷ record { hypotheses = []; choices = []; lowers = lowers; uppers = [] }
    ∷ record { hypotheses = []; choices = []; lowers = []; uppers = uppers } ∷ []
