-- Lines of a report, by the numbers and the names that stand in them.
use Rattle.std.specs.Prelude.{ℕ, List, ◌++◌, codes, decimal}
use Rattle.plain_model.specs.Report.{line_feed}

-- the counts line of a net with so many places and transitions
abbrev pub counts_text : ℕ → ℕ → List ℕ
counts_text places transitions =
    codes "places " ++ decimal places
    ++ codes " constant 0 instances " ++ decimal transitions
    ++ codes " live " ++ decimal transitions
    ++ codes " kept " ++ decimal transitions ++ line_feed

-- the failed line, the fact with this name that stands in it, and the transition with this id
abbrev pub step_text : ℕ → List ℕ → List ℕ → List ℕ
step_text line name id =
    codes "failed line " ++ decimal line ++ codes " fact " ++ name
    ++ codes " step " ++ id ++ codes "@0" ++ line_feed
