use Rattle.context_uc_tests.specs.Standing.{IsOpen}
use Rattle.example_tests.proofs.answers.answer_all.Given as goal

-- its space isn't pinned, and it may serve 64 requests
abbrev pub invariant-requests : goal.invariant-requests
invariant-requests g l = IsOpen g.S.Held.pin l.context
