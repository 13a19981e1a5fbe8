use Rattle.call_command.proofs.calling.run_line.Given as goal

abbrev pub ghosts-execute : goal.ghosts-execute
ghosts-execute a = record { name = a.blank.name; parts = a.blank.parts }
