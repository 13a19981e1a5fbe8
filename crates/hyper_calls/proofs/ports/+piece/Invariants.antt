use Rattle.std.proofs.Common.{length}
use Rattle.hyper_calls.proofs.ports.+piece.Given as goal

abbrev pub decreases-piece : goal.decreases-piece
decreases-piece l = length l.sizes.now
