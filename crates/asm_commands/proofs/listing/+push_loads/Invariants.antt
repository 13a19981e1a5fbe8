use Rattle.std.proofs.Common.{length}
use Rattle.asm_commands.proofs.listing.+push_loads.Given as goal

abbrev pub decreases-push_loads : goal.decreases-push_loads
decreases-push_loads g l = length l.loads.now
