use Rattle.std.proofs.Common.{◌≡◌, None}
use Rattle.bench_parts.proofs.copies.deploy_often.Given as goal

-- what was captured isn't pinned
abbrev pub invariant-rounds : goal.invariant-rounds
invariant-rounds g l = g.T.Frozen.Held.pin l.frozen ≡ None
