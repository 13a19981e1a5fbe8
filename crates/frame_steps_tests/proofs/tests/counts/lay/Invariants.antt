use Rattle.frame_words.specs.Holders.{view, IsOf}
use Rattle.frame_steps_tests.specs.Filled.{IsLaid}
use Rattle.frame_steps_tests.proofs.tests.counts.lay.Given as goal

abbrev pub invariant-loop-f : goal.invariant-loop-f
invariant-loop-f l = IsLaid l.f (view l.h) × IsOf l.h l.t
