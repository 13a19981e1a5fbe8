use Rattle.frame_words.specs.Holders.{view, IsOf}
use Rattle.frame_steps_tests.specs.Filled.{IsFilled}
use Rattle.frame_steps_tests.proofs.tests.counts.filled_up.Given as goal

abbrev pub invariant-loop-n : goal.invariant-loop-n
invariant-loop-n l = IsFilled l.n (view l.h) × IsOf l.h l.t
