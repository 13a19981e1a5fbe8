use Rattle.context_uc_tests.proofs.tests.both.Given as goal

-- a ledger of the runs' own
abbrev pub ghosts-both_by : goal.ghosts-both_by
ghosts-both_by a = record { name = a.blank.name; parts = a.blank.parts }
