use Rattle.std.proofs.Common.{◌≡◌}
use Rattle.slot_lists_tests.proofs.tests.contexts_push_out.Given as goal

abbrev pub invariant-loop-id : goal.invariant-loop-id
invariant-loop-id l = l.idle.room ≡ 256
