use Rattle.std.proofs.Common.{length}
use Rattle.plan_text.proofs.names.+are_well_named.Given as goal

abbrev pub decreases-are_well_named : goal.decreases-are_well_named
decreases-are_well_named g l = length l.all.now
