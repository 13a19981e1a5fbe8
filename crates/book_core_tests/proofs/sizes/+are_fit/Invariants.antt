use Rattle.std.proofs.Common.{length}
use Rattle.book_core_tests.proofs.sizes.+are_fit.Given as goal

abbrev pub decreases-are_fit : goal.decreases-are_fit
decreases-are_fit l = length l.stacks.now
