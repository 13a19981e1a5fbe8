-- What comes of the end of a layer's run.
use Rattle.std.specs.Prelude.{◌≡◌, ◌≢◌, ℕ, ◌<◌, [], List, Option}
use Rattle.book_model.specs.Shared.{Shared}
use Rattle.context_uc.specs.Views.{ContextView, level_of}
use Rattle.deployer.specs.Hosting.{Telling}
use Rattle.hyper_calls.specs.Exchange.{Exchange}
use Rattle.journal_model.specs.declared.answer.Answer.{Answer}
use Rattle.journal_model.specs.declared.event.Event.{Event}
use Rattle.plan_model.specs.Outline.{Outline}
use Rattle.request_service.specs.Turns.{Closes, EndsByRun, Goes}
use Rattle.request_service.specs.UnderWay.{IsUnderWay, counted_in, level_in}
use Rattle.request_service.specs.declared.service.Service.{Service}
use Rattle.request_service.specs.declared.service.Turned.{Turned}
use Rattle.request_service.specs.declared.service.Turned.TheVariants.{Went, Answered}

-- the request is closed without a run of its own
pub record IsLost {C L H : Type 0} (plan : Outline) (i : ℕ) (answer : Answer)
    (old new : Shared C L H) : Type 0 where
  pub events : List Event
  pub closes : Closes plan i answer events old new
  pub no_run : EndsByRun answer.end → ⊥

module _ {S L H : Type 0} (plan : Outline) (telling : Telling S) where
  -- The context stands at the layer above the place, whose run counted so many instructions, and is
  -- between runs.
  pub record Climbs (i : ℕ) (place : Option ℕ) (count : ℕ) (next : Service (ContextView S) S)
      (old new : Shared (ContextView S) L H) : Type 0 where
    pub events : List Event
    pub some : events ≢ []
    pub goes : Goes plan i events count old new
    pub number_is : next.origin.i ≡ i
    pub under_way : (ports : Exchange) → IsUnderWay plan telling ports next new
    pub none_counted : counted_in next.work ≡ 0
    pub climbs : level_of place < level_in next.work

  abbrev pub ClimbsTo : (i : ℕ) → (place : Option ℕ) → (count : ℕ) → Turned (ContextView S) S →
      (old new : Shared (ContextView S) L H) → Type 0
  ClimbsTo i place count (Went next) old new = Climbs i place count next old new
  ClimbsTo i place count (Answered answer) old new = IsLost plan i answer old new
