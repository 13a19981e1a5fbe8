use Rattle.space_tests.proofs.tests.runs.go_on.Given as goal

-- a ledger of the run's own
abbrev pub ghosts-run_in : goal.ghosts-run_in
ghosts-run_in a = record { name = a.blank.name; parts = a.blank.parts }
