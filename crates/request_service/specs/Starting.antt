-- What the start of a request makes of the book, and what it finds.
use Rattle.std.specs.Prelude.{◌≡◌, ℕ, ◌+◌, ◌++◌, ◌∷◌, [], None, length}
use Rattle.book_log.specs.declared.started.Started.{Started}
use Rattle.book_model.specs.Shared.{Shared}
use Rattle.context_uc.specs.Views.{ContextView}
use Rattle.deployer.specs.Hosting.{Telling}
use Rattle.hyper_calls.specs.Exchange.{Exchange}
use Rattle.journal_model.specs.Legal.{after_start}
use Rattle.journal_model.specs.declared.answer.Answer.{Answer}
use Rattle.journal_model.specs.declared.answer.End.TheVariants as end
use Rattle.journal_model.specs.declared.event.Event.{Event}
use Rattle.journal_model.specs.declared.event.Event.TheVariants.{Start}
use Rattle.plan_model.specs.Outline.{Outline}
use Rattle.request_service.specs.Turns.{Closes, Goes}
use Rattle.request_service.specs.UnderWay.{IsUnderWay, Waits}
use Rattle.request_service.specs.declared.service.Service.{Service}
use Rattle.request_service.specs.declared.service.Turned.{Turned}
use Rattle.request_service.specs.declared.service.Turned.TheVariants.{Went, Answered}
use Rattle.request_service.specs.declared.service.Unserved.{Unserved}
use Rattle.service_model.specs.Going.{wanted_events}

-- One request was started, and waits; it is the next one, and nothing else changed.
pub record Starts {C L H : Type 0} (one : Started) (request : Unserved) (old new : Shared C L H)
    : Type 0 where
  pub number_is : request.i ≡ length old.started + 1
  pub function_is : request.function ≡ one.function
  pub new_is : new ≡ record old {
    events = old.events ++ Start (length old.started + 1) one.function one.given.clock ∷ [];
    state = after_start old.state one.function one.given.clock;
    started = old.started ++ one ∷ [];
  }
  pub waits : Waits request new

module _ {S L H : Type 0} (plan : Outline) (telling : Telling S) where
  -- it found what serves it, by one event
  pub record IsFound (i : ℕ) (next : Service (ContextView S) S)
      (old new : Shared (ContextView S) L H) : Type 0 where
    pub event : Event
    pub goes : Goes plan i (event ∷ []) 0 old new
    pub number_is : next.origin.i ≡ i
    pub under_way : (ports : Exchange) → IsUnderWay plan telling ports next new

  -- it found no memory
  pub record FindsNoMemory (i : ℕ) (answer : Answer) (old new : Shared (ContextView S) L H)
      : Type 0 where
    pub closes : Closes plan i answer (wanted_events i None) old new
    pub end_is : answer.end ≡ end.Memory

  abbrev pub Finds : (i : ℕ) → Turned (ContextView S) S →
      (old new : Shared (ContextView S) L H) → Type 0
  Finds i (Went next) old new = IsFound i next old new
  Finds i (Answered answer) old new = FindsNoMemory i answer old new
