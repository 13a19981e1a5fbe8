use Rattle.std.proofs.Common.{length}
use Rattle.image_model.proofs.valid.+is_executable.Given as goal

abbrev pub decreases-is_executable : goal.decreases-is_executable
decreases-is_executable l = length l.segments.now
