use Rattle.reduction_examples.proofs.tests.places_of_a_siphon_stay_empty.Given as goal

abbrev pub ghosts-closed : goal.ghosts-closed
ghosts-closed g a = record { name = a.blank.name; parts = a.blank.parts }
