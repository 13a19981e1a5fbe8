use Rattle.book_core_tests.proofs.Playing.{may_end_one, may_end_two}
use Rattle.book_core_tests.proofs.played.Played.may_end.Goals as goal

pub returns-in-None : goal.returns-in-None
returns-in-None g c = may_end_one c.may_stand.result c.in_ok-journal.journal _ _ c.args.i c.args.c
    c.args.answered c.in_ok-journal.ensures.sizes c.in_ok-journal.ensures.state c.in-None.is
    c.may_stand.ensures

pub returns-in-Some : goal.returns-in-Some
returns-in-Some g c = may_end_two c.may_both.result c.in_ok-journal.journal _ _ c.args.i c.args.c
    c.in-Some.u c.args.answered c.in_ok-journal.ensures.sizes c.in_ok-journal.ensures.state
    c.in-Some.is c.may_both.ensures
