use Rattle.std.proofs.Common.{length}
use Rattle.run_journal.proofs.conditions.+first_for.Given as goal

abbrev pub decreases-first_for : goal.decreases-first_for
decreases-first_for l = length l.numbers.now
