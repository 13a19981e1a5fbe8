use Rattle.std.proofs.Common.{◌≡◌}
use Rattle.frame_words.specs.Holders.{view, IsOf}
use Rattle.frame_steps_tests.proofs.tests.threads.is_counted.Given as goal

abbrev pub invariant-loop-i : goal.invariant-loop-i
invariant-loop-i l = (view l.h ≡ view l.initial.h) × IsOf l.h l.t
