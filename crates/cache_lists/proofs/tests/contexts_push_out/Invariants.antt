use Rattle.std.proofs.Common.{◌≡◌}
use Rattle.cache_lists.proofs.tests.contexts_push_out.Given as goal

abbrev pub invariant-loop-id : goal.invariant-loop-id
invariant-loop-id l = l.list.room ≡ 256
