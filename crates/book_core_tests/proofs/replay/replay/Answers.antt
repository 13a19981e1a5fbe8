use Rattle.book_core_tests.proofs.Replaying.{replay_stops, replay_goes, ends_at, not_none}
use Rattle.std.proofs.Common.{◌∙◌}
use Rattle.book_core_tests.proofs.replay.replay.Goals as goal

pub unreachable-requires : goal.unreachable-requires
unreachable-requires c = not_none _ c.requires (replay_stops c.in_ok-may.may c.args.sizes.now
    c.events.journal.sizes c.events.journal.state c.step.new.self.state c.args.events.now
    c.events.event-index _ _ c.events.invariant.sizes c.events-test.true c.if-not-may.true
    c.in_ok-may.ensures.state c.events.invariant.rest)

pub events-preserved : goal.events-preserved
events-preserved c = record {
  sizes = c.step.ensures.sizes ∙ c.events.invariant.sizes;
  rest = replay_goes c.in_ok-may.may c.args.sizes.now c.events.journal.sizes
      c.events.journal.state c.step.new.self.state c.args.events.now c.events.event-index _ _
      c.events.invariant.sizes c.events-test.true c.if-not-may.false
      c.in_ok-may.ensures.state c.events.invariant.rest;
}

pub returns-clause-state : goal.returns-clause-state
returns-clause-state c = ends_at c.args.sizes.now c.events.journal.state c.args.events.now
    c.events.event-index _ c.events-test.false c.events.invariant.rest
