use Rattle.std.proofs.Common.{◌≡◌, true}
use Rattle.bench_parts.proofs.copies.capture_often.Given as goal

-- the space may run
abbrev pub invariant-rounds : goal.invariant-rounds
invariant-rounds g l = g.T.Space.Space.finished l.space ≡ true
