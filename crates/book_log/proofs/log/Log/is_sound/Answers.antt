use Rattle.std.proofs.Common.{subst, ◌≤◌, length}
use Rattle.book_log.specs.Logged.{Logged}
use Rattle.book_log.proofs.Logging.{contexts_few}
use Rattle.book_log.proofs.log.Log.is_sound.Goals as goal

pub returns-clause-few : goal.returns-clause-few
returns-clause-few c = subst (λ (v : Logged). length v.state.contexts ≤ length v.started)
    c.self.view_is (contexts_few _ _ _ _ c.self.invariant.0)
