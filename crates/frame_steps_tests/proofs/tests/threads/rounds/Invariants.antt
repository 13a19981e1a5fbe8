use Rattle.frame_words.specs.Holders.{view, IsOf}
use Rattle.frame_steps_tests.specs.Mids.{IsShared, HasReferences}
use Rattle.frame_steps_tests.proofs.tests.threads.rounds.Given as goal

abbrev pub invariant-loop : goal.invariant-loop
invariant-loop l = IsOf l.mine l.t × IsShared (view l.mine) × HasReferences 1 (view l.mine)
