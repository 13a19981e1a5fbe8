-- What comes of the end of a request's run.
use Rattle.std.specs.Prelude.{◌≡◌, ℕ, true, List, None, Some}
use Rattle.book_model.specs.Shared.{Shared}
use Rattle.context_runs.specs.OfRequests.{HasEnded}
use Rattle.context_runs.specs.declared.request_run.RequestRun.{RequestRun}
use Rattle.context_uc.specs.Views.{ContextView, LayerView}
use Rattle.deployer.specs.Grounds.{AreGrounds, IsSizedBy}
use Rattle.deployer.specs.Hosting.{Telling}
use Rattle.hyper_calls.specs.Exchange.{Exchange}
use Rattle.journal_model.specs.declared.answer.Answer.{Answer}
use Rattle.journal_model.specs.declared.event.Event.{Event}
use Rattle.machine_model.specs.declared.stop.Stop.{Stop}
use Rattle.plan_model.specs.Outline.{Outline}
use Rattle.request_service.specs.Ending.{IsDue, MayIdle, to_park}
use Rattle.request_service.specs.Turns.{Closes, EndsByRun}
use Rattle.request_service.specs.UnderWay.{HostsInRun, IsKnownAs}
use Rattle.request_service.specs.declared.service.InRun.{InRun}
use Rattle.service_model.specs.Going.{given_in}
use Rattle.space_api.specs.Flat.{Flat}

-- The run of the request stopped so. The context serves the request, and the run was given what the
-- request was; the book is that of the context's plan.
pub record MayEnd {S Z H : Type 0} (telling : Telling S) (flat : Z → Flat)
    (is_context : ContextView S → Type 0) (is_layer : LayerView Z → Type 0)
    (at : InRun (ContextView S) RequestRun) (ports : Exchange) (stop : Stop)
    (book : Shared (ContextView S) (LayerView Z) H) : Type 0 where
  pub sizes : IsSizedBy at.context.plan book.sizes
  pub grounds : AreGrounds at.context.plan flat is_context is_layer
  pub known : IsKnownAs at.origin book.state
  pub hosts : HostsInRun at.context.plan telling at.origin.i at.context book
  pub own : given_in book.started at.origin.i ≡ Some at.run.given
  pub ended : HasEnded at.context (telling.flat at.context.space) ports at.run stop

-- The line is due to the request, and its context may be idle, where it is to be parked.
pub record MayClose {S L H : Type 0} (telling : Telling S) (answer : Answer) (c : ContextView S)
    (book : Shared (ContextView S) L H) : Type 0 where
  pub loose : telling.pin c.space ≡ None
  pub due : IsDue c.plan answer book
  pub idle : to_park c.plan.numbers answer.end answer.used ≡ true → MayIdle telling answer c book

-- some events closed the request of the line with it
pub record IsClosed {C L H : Type 0} (plan : Outline) (answer : Answer) (old new : Shared C L H)
    : Type 0 where
  pub events : List Event
  pub closes : Closes plan answer.i answer events old new

-- The request is closed. Where its line is that of a run, the run counted as many instructions as
-- the line says.
pub record IsAnswered {C L H : Type 0} (plan : Outline) (i done : ℕ) (answer : Answer)
    (old new : Shared C L H) : Type 0 where
  pub events : List Event
  pub closes : Closes plan i answer events old new
  pub steps_are : EndsByRun answer.end → answer.steps ≡ done
