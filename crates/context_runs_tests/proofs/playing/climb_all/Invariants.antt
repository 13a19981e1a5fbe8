use Rattle.context_runs_tests.specs.Climbing.{MayClimb}
use Rattle.context_runs_tests.proofs.playing.climb_all.Given as goal

-- it may climb on
abbrev pub invariant-layers : goal.invariant-layers
invariant-layers g l = MayClimb g.T.Space.Held.pin l.context
