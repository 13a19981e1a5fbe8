use Rattle.std.proofs.Common.{length}
use Rattle.plan_text.proofs.images.+loaded_within.Given as goal

abbrev pub decreases-loaded_within : goal.decreases-loaded_within
decreases-loaded_within l = length l.segments.now
