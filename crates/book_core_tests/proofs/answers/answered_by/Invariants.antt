use Rattle.std.proofs.Common.{◌≡◌, drop, []}
use Rattle.book_core_tests.specs.Answered.{with_answers}
use Rattle.book_core_tests.proofs.answers.answered_by.Given as goal

abbrev pub invariant-events : goal.invariant-events
invariant-events l = with_answers l.c (drop l.event-index l.events) l.numbers.items
    ≡ with_answers l.c l.events []
