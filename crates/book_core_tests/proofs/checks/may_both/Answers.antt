use Rattle.book_core_tests.proofs.Playing.{may_second}
use Rattle.book_core_tests.proofs.checks.may_both.Goals as goal

pub returns : goal.returns
returns c = may_second c.step-2.result c.in_ok-may.may c.args.journal.sizes
    c.step.new.self.sizes c.args.journal.state c.step.new.self.state _ c.args.first c.args.second
    c.step.ensures.sizes c.if-not-may.false c.in_ok-may.ensures.state c.step-2.ensures.state
