use Rattle.reduction_probe.proofs.kept.Given as goal

abbrev pub ghosts-reduced : goal.ghosts-reduced
ghosts-reduced a = record { name = a.blank.name; parts = a.blank.parts }
