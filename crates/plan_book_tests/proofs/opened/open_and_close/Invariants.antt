use Rattle.plan_book_tests.proofs.opened.open_and_close.Given as goal

-- the plan itself
abbrev pub ghosts-open_picked : goal.ghosts-open_picked
ghosts-open_picked g a = record { plan = a.plan.now }
