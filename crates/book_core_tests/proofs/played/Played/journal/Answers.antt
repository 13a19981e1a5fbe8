use Rattle.book_core_tests.proofs.Replaying.{replay_may, journal_sizes, journal_state}
use Rattle.book_core_tests.proofs.played.Played.journal.Goals as goal

pub replay-requires : goal.replay-requires
replay-requires g c = replay_may _ _ _ _ _ c.sizes.ensures c.events.ensures
    c.is_sound.ensures.held.log.reached

pub returns-clause-sizes : goal.returns-clause-sizes
returns-clause-sizes g c = journal_sizes c.replay.result _ _ c.sizes.ensures
    c.replay.ensures.sizes

pub returns-clause-state : goal.returns-clause-state
returns-clause-state g c = journal_state c.replay.result _ _ _ _ _ c.sizes.ensures
    c.events.ensures c.is_sound.ensures.held.log.reached c.replay.ensures.state
