use Rattle.pt_net.proofs.tests.input_entries_are_packed.Given as goal

abbrev pub ghosts-first_entry : goal.ghosts-first_entry
ghosts-first_entry g a = record { name = a.blank.name; parts = a.blank.parts }
