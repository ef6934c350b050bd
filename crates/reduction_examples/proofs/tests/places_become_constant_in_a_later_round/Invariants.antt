use Rattle.reduction_examples.proofs.tests.places_become_constant_in_a_later_round.Given as goal

abbrev pub ghosts-reduced : goal.ghosts-reduced
ghosts-reduced g a = record { name = a.blank.name; parts = a.blank.parts }
