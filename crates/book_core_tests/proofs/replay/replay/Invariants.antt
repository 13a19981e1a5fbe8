use Rattle.std.proofs.Common.{◌≡◌, drop}
use Rattle.journal_model.specs.Legal.{after_all, at_first}
use Rattle.book_core_tests.proofs.replay.replay.Given as goal

abbrev pub invariant-events : goal.invariant-events
invariant-events l = record {
  sizes : l.journal.sizes ≡ l.sizes;
  rest : after_all l.sizes l.journal.state (drop l.event-index l.events)
      ≡ after_all l.sizes (at_first l.sizes) l.events;
}
