use Rattle.std.proofs.Common.{IsSome}
use Rattle.journal_model.specs.Legal.{after}
use Rattle.book_core_tests.proofs.Playing.{may_here}
use Rattle.book_core_tests.proofs.played.Played.may_note.Goals as goal

pub returns : goal.returns
returns g c = may_here c.may_stand.result c.in_ok-journal.journal _ _
    (λ sizes s. IsSome (after sizes s c.args.event)) c.in_ok-journal.ensures.sizes
    c.in_ok-journal.ensures.state c.may_stand.ensures
