-- A request that found no memory is lost.
use Rattle.std.proofs.Common.{◌≡◌, ℕ, List, subst}
use Rattle.book_model.specs.Shared.{Shared}
use Rattle.journal_model.specs.declared.answer.Answer.{Answer}
use Rattle.journal_model.specs.declared.answer.End.TheVariants as ends
use Rattle.journal_model.specs.declared.event.Event.{Event}
use Rattle.plan_model.specs.Outline.{Outline}
use Rattle.request_service.specs.Climbing.{IsLost}
use Rattle.request_service.specs.Turns.{Closes, EndsByRun}

-- the end of a request that found no memory is no run's
pub lost_so : {C L H : Type 0} (plan : Outline) (i : ℕ) (answer : Answer) (old new : Shared C L H)
    (events : List Event) → Closes plan i answer events old new → answer.end ≡ ends.Memory →
    IsLost plan i answer old new
lost_so plan i answer old new events closes e = record {
  events = events;
  closes = closes;
  no_run = λ r. subst EndsByRun e r;
}
