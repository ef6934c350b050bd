use Rattle.reduction_examples.proofs.tests.gives.Given as goal

abbrev pub ghosts-reduced : goal.ghosts-reduced
ghosts-reduced a = record { name = a.blank.name; parts = a.blank.parts }
