use Rattle.context_runs_tests.proofs.tests.rows.Given as goal

-- a ledger of the runs' own
abbrev pub ghosts-rows_by : goal.ghosts-rows_by
ghosts-rows_by a = record { name = a.blank.name; parts = a.blank.parts }
