use Rattle.book_core_tests.proofs.Playing.{may_step}
use Rattle.book_core_tests.proofs.checks.may_stand.Goals as goal

pub returns : goal.returns
returns c = may_step c.step.result _ _ _ c.step.ensures.state
