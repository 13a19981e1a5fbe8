use Rattle.std.proofs.Common.{◌+◌}
use Rattle.output_buffer.proofs.piece.+push_hex.Given as goal

abbrev pub decreases-push_hex : goal.decreases-push_hex
decreases-push_hex g l = l.n + l.width
