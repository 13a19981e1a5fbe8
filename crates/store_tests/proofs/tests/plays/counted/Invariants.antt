use Rattle.store_tests.proofs.tests.plays.counted.Given as goal

-- a ledger of the play's own
abbrev pub ghosts-counted_by : goal.ghosts-counted_by
ghosts-counted_by g a = record { name = a.blank.name; parts = a.blank.parts }
