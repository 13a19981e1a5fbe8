use Rattle.std.proofs.Common.{length}
use Rattle.image_model.proofs.valid.+has_at_most.Given as goal

abbrev pub decreases-has_at_most : goal.decreases-has_at_most
decreases-has_at_most l = length l.segments.now
