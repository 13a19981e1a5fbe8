use Rattle.std.proofs.Common.{◌≡◌}
use Rattle.cache_lists.proofs.tests.layers_push_out.Given as goal

abbrev pub invariant-loop-k : goal.invariant-loop-k
invariant-loop-k l = l.list.room ≡ 256
