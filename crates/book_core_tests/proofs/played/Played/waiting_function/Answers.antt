use Rattle.book_core_tests.proofs.Playing.{waits_is, function_is}
use Rattle.book_core_tests.proofs.played.Played.waiting_function.Goals as goal

pub returns-clause-waits : goal.returns-clause-waits
returns-clause-waits g c = waits_is c.in_ok-journal.journal.state _ c.args.i c.in-Some.request
    c.in_ok-journal.ensures.state c.in-Some.ensures (c.waits-is.ensures c.if-not-is.false)

pub returns-clause-function : goal.returns-clause-function
returns-clause-function g c = function_is c.in_ok-journal.journal.state _ c.args.i
    c.in-Some.request c.in_ok-journal.ensures.state c.in-Some.ensures
