use Rattle.std.proofs.Common.{length}
use Rattle.run_journal.proofs.stacks.+highest_kept.Given as goal

abbrev pub decreases-highest_kept : goal.decreases-highest_kept
decreases-highest_kept l = length l.stack.now
