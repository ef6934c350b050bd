use Rattle.reduction_examples.proofs.tests.markings_are_projected_and_lifted.Given as goal

abbrev pub ghosts-reduced : goal.ghosts-reduced
ghosts-reduced g a = record { name = a.blank.name; parts = a.blank.parts }
