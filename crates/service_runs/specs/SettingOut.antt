-- A service whose context sets out on a run.
use Rattle.std.specs.Prelude.{◌≡◌, ℕ}
use Rattle.book_model.specs.Shared.{Shared}
use Rattle.context_uc.specs.Views.{ContextView}
use Rattle.deployer.specs.Hosting.{Telling}
use Rattle.hyper_calls.specs.Exchange.{Exchange}
use Rattle.plan_model.specs.Outline.{Outline}
use Rattle.request_service.specs.Climbing.{IsLost}
use Rattle.request_service.specs.UnderWay.{IsUnderWay, counted_in, level_in}
use Rattle.request_service.specs.declared.service.Origin.{Origin}
use Rattle.request_service.specs.declared.service.Work.{Work}
use Rattle.request_service.specs.declared.service.Work.TheVariants.{Layer, Request}
use Rattle.service_runs.specs.declared.setting_out.SetOut.{SetOut}
use Rattle.service_runs.specs.declared.setting_out.SetOut.TheVariants.{InLayer, InRequest, Lost}

module _ {S L H : Type 0} (plan : Outline) (telling : Telling S) (i counted level : ℕ) where
  -- It is in this run, of which so many instructions were counted, at the level where it was.
  -- Nothing happened to the book.
  pub record IsOut (origin : Origin) (work : Work (ContextView S) S) (ports : Exchange)
      (old new : Shared (ContextView S) L H) : Type 0 where
    pub same : new ≡ old
    pub number_is : origin.i ≡ i
    pub under_way : IsUnderWay plan telling ports (record { origin = origin; work = work }) new
    pub counted_is : counted_in work ≡ counted
    pub level_is : level_in work ≡ level

  -- it is in a run, or found no memory, and its request is closed
  abbrev pub SetsOut : SetOut (ContextView S) → (ports : Exchange) →
      (old new : Shared (ContextView S) L H) → Type 0
  SetsOut (InLayer at) ports old new = IsOut at.origin (Layer at.context at.run) ports old new
  SetsOut (InRequest at) ports old new = IsOut at.origin (Request at.context at.run) ports old new
  SetsOut (Lost answer) ports old new = IsLost plan i answer old new
