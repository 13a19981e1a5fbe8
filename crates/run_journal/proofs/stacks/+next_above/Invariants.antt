use Rattle.std.proofs.Common.{length}
use Rattle.run_journal.proofs.stacks.+next_above.Given as goal

abbrev pub decreases-next_above : goal.decreases-next_above
decreases-next_above l = length l.stack.now
