use Rattle.reduction_examples.proofs.tests.a_million_stages_are_closed.Given as goal

abbrev pub ghosts-closed : goal.ghosts-closed
ghosts-closed g a = record { name = a.blank.name; parts = a.blank.parts }

abbrev pub ghosts-reduced : goal.ghosts-reduced
ghosts-reduced g a = record { name = a.blank.name; parts = a.blank.parts }
