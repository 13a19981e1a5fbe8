use Rattle.std.proofs.Common.{◌≡◌, true}
use Rattle.plain_space_tests.proofs.tests.many.writes.Given as goal

-- the space may run
abbrev pub invariant-loop-page : goal.invariant-loop-page
invariant-loop-page g l = g.S.Space.finished l.space ≡ true
