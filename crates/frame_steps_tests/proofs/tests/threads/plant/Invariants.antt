use Rattle.frame_words.specs.Holders.{view, IsOf}
use Rattle.frame_steps_tests.specs.Mids.{IsPlaced}
use Rattle.frame_steps_tests.proofs.tests.threads.plant.Given as goal

abbrev pub invariant-loop-i : goal.invariant-loop-i
invariant-loop-i l = IsPlaced l.i l.i (view l.h) × IsOf l.h l.t
