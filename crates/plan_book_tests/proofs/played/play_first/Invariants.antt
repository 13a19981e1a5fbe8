use Rattle.plan_book_tests.proofs.played.play_first.Given as goal

-- the plan itself
abbrev pub ghosts-play_picked : goal.ghosts-play_picked
ghosts-play_picked g a = record { plan = a.plan.now }
