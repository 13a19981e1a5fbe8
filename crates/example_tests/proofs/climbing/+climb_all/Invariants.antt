use Rattle.std.proofs.Common.{length}
use Rattle.example_tests.proofs.climbing.+climb_all.Given as goal

-- how many layers are left
abbrev pub decreases-climb_all : goal.decreases-climb_all
decreases-climb_all g l = length l.stack.now
