use Rattle.std.proofs.Common.{length}
use Rattle.image_start.proofs.changes.+segments_permission.Given as goal

abbrev pub decreases-segments_permission : goal.decreases-segments_permission
decreases-segments_permission l = length l.segments.now
