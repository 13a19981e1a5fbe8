use Rattle.std.proofs.Common.{◌≡◌}
use Rattle.slot_lists_tests.proofs.tests.layers_push_out.Given as goal

abbrev pub invariant-loop-k : goal.invariant-loop-k
invariant-loop-k l = l.layers.room ≡ 256
