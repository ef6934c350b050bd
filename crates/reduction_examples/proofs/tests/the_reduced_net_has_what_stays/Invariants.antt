use Rattle.reduction_examples.proofs.tests.the_reduced_net_has_what_stays.Given as goal

abbrev pub ghosts-reduced : goal.ghosts-reduced
ghosts-reduced g a = record { name = a.blank.name; parts = a.blank.parts }
