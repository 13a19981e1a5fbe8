use Rattle.std.proofs.Common.{length}
use Rattle.image_start.proofs.changes.+next_segments_change.Given as goal

abbrev pub decreases-next_segments_change : goal.decreases-next_segments_change
decreases-next_segments_change l = length l.segments.now
