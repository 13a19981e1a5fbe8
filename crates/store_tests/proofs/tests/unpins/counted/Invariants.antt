use Rattle.store_tests.proofs.tests.unpins.counted.Given as goal

-- a ledger of the pins' own
abbrev pub ghosts-counted_by : goal.ghosts-counted_by
ghosts-counted_by a = record { name = a.blank.name; parts = a.blank.parts }
