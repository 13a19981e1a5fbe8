use Rattle.std.proofs.Common.{length}
use Rattle.context_runs.proofs.next.+above_layer.Given as goal

abbrev pub decreases-above_layer : goal.decreases-above_layer
decreases-above_layer l = length l.stack.now
