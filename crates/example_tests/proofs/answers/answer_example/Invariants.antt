use Rattle.example_tests.proofs.answers.answer_example.Given as goal

-- a ledger of the function's own
abbrev pub ghosts-answer_function : goal.ghosts-answer_function
ghosts-answer_function g a = record { name = a.blank.name; parts = a.blank.parts }
