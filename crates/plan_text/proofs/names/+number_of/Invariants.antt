use Rattle.std.proofs.Common.{length}
use Rattle.plan_text.proofs.names.+number_of.Given as goal

abbrev pub decreases-number_of : goal.decreases-number_of
decreases-number_of g l = length l.all.now
