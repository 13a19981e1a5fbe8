-- What a step of a service makes of the book.
use Rattle.std.specs.Prelude.{◌≡◌, ◌≢◌, ℕ, ◌+◌, ◌<◌, Bool, false, [], List, Option, Some}
use Rattle.batch_model.specs.Events.{ParksRightly, is_ok}
use Rattle.batch_model.specs.Replies.{IsLineOf}
use Rattle.book_model.specs.Shared.{Shared}
use Rattle.context_uc.specs.Views.{ContextView}
use Rattle.deployer.specs.Hosting.{Telling}
use Rattle.hyper_calls.specs.Exchange.{Exchange}
use Rattle.journal_model.specs.Legal.{is_open_standing}
use Rattle.journal_model.specs.declared.answer.Answer.{Answer}
use Rattle.journal_model.specs.declared.answer.End.{End}
use Rattle.journal_model.specs.declared.answer.End.TheVariants as end
use Rattle.journal_model.specs.declared.event.Event.{Event}
use Rattle.journal_model.specs.declared.state.Standing.{Standing}
use Rattle.journal_model.specs.declared.state.Standing.TheVariants.{Open}
use Rattle.plan_model.specs.Outline.{Outline}
use Rattle.request_service.specs.UnderWay.{IsUnderWay, counted_in, level_in}
use Rattle.request_service.specs.declared.service.Service.{Service}
use Rattle.request_service.specs.declared.service.Turned.{Turned}
use Rattle.request_service.specs.declared.service.Turned.TheVariants.{Went, Answered}
use Rattle.request_service.specs.declared.service.Work.{Work}
use Rattle.service_model.specs.Going.{WentBy, given_in}
use Rattle.service_model.specs.Staying.{IsSettled, LeavesOthers, TurnsOnly}
use Rattle.service_model.specs.Ticking.{BuildsTook}

module _ {C L H : Type 0} where
  -- These events of the service of request i were appended, and it is still open. All other
  -- services stay, contexts are parked rightly whatever lines come, and the layers that were built
  -- took so many instructions.
  pub record Goes (plan : Outline) (i : ℕ) (events : List Event) (took : ℕ)
      (old new : Shared C L H) : Type 0 where
    pub went : WentBy events old new
    pub others : LeavesOthers i old.state new.state
    pub settled : IsSettled old.state → IsSettled new.state
    pub parks : (ok : ℕ → Bool) → ParksRightly plan.numbers ok events
    pub took_is : BuildsTook plan events took
    pub turns : TurnsOnly i Open old.state new.state

  -- These events closed request i, which has this line, and built nothing. All other services stay,
  -- and contexts are parked rightly with this line.
  pub record Closes (plan : Outline) (i : ℕ) (answer : Answer) (events : List Event)
      (old new : Shared C L H) : Type 0 where
    pub went : WentBy events old new
    pub others : LeavesOthers i old.state new.state
    pub settled : IsSettled old.state → IsSettled new.state
    pub parks : (ok : ℕ → Bool) → ok i ≡ is_ok answer.end → ParksRightly plan.numbers ok events
    pub none_built : BuildsTook plan events 0
    pub line : IsLineOf plan (given_in old.started) new.state i answer
    pub now : Standing
    pub closed : is_open_standing now ≡ false
    pub turns : TurnsOnly i now old.state new.state

-- whether the end is that of a run of the request
abbrev pub EndsByRun : End → Type 0
EndsByRun end.Ok = Unit {0}
EndsByRun (end.Halt code) = Unit {0}
EndsByRun (end.Fault cause pc tval) = Unit {0}
EndsByRun end.Budget = Unit {0}
EndsByRun (end.NoLayer k why) = ⊥
EndsByRun end.Frames = ⊥
EndsByRun end.Memory = ⊥

module _ {S L H : Type 0} (plan : Outline) (telling : Telling S) where
  -- A turn of a service that goes on, from work that has come so far, with so many ticks before it
  -- and after it. It ticks each instruction that it runs. It appends an event, or else it paused
  -- after as many instructions as it may take. With no pause it comes to another layer.
  pub record GoesOn (pause : Option ℕ) (i : ℕ) (work : Work (ContextView S) S) (from : ℕ)
      (next : Service (ContextView S) S) (ports : Exchange) (ticks : ℕ)
      (old new : Shared (ContextView S) L H) : Type 0 where
    pub events : List Event
    pub took : ℕ
    pub goes : Goes plan i events took old new
    pub number_is : next.origin.i ≡ i
    pub under_way : IsUnderWay plan telling ports next new
    pub ticks_are : ticks + counted_in work ≡ from + (took + counted_in next.work)
    pub progress : events ≡ [] → (n : ℕ) × (pause ≡ Some n) × (ticks ≡ from + n)
    pub climbs : events ≢ [] → level_in work < level_in next.work

  -- A turn of a service that closes its request. Where the request had a run of its own, that run's
  -- instructions are those of the line.
  pub record IsOver (i : ℕ) (work : Work (ContextView S) S) (from : ℕ) (answer : Answer)
      (ticks : ℕ) (old new : Shared (ContextView S) L H) : Type 0 where
    pub events : List Event
    pub closes : Closes plan i answer events old new
    pub ticks_are : EndsByRun answer.end → ticks + counted_in work ≡ from + answer.steps

  abbrev pub TurnsTo : (pause : Option ℕ) → (i : ℕ) → Work (ContextView S) S → (from : ℕ) →
      Turned (ContextView S) S → (ports : Exchange) → (ticks : ℕ) →
      (old new : Shared (ContextView S) L H) → Type 0
  TurnsTo pause i work from (Went next) ports ticks old new =
      GoesOn pause i work from next ports ticks old new
  TurnsTo pause i work from (Answered answer) ports ticks old new =
      IsOver i work from answer ticks old new
