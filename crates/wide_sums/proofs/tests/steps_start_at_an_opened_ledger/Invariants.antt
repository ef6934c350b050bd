use Rattle.wide_sums.proofs.tests.steps_start_at_an_opened_ledger.Given as goal

abbrev pub ghosts-ticked : goal.ghosts-ticked
ghosts-ticked a = record { name = a.blank.name; parts = a.blank.parts }
