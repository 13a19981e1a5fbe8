-- Where a service is between two turns.
use Rattle.std.specs.Prelude.{◌≡◌, ℕ, true, Some}
use Rattle.book_core.specs.declared.deploying.Deployed.{Deployed as NewContext}
use Rattle.book_model.specs.Shared.{Shared}
use Rattle.context_runs.specs.OfLayers.{IsLayerUnderWay, IsOnStack}
use Rattle.context_runs.specs.OfRequests.{IsRequestUnderWay}
use Rattle.context_runs.specs.declared.layer_run.LayerRun.{LayerRun}
use Rattle.context_runs.specs.declared.request_run.RequestRun.{RequestRun}
use Rattle.context_uc.specs.Views.{ContextView, level_of}
use Rattle.deployer.specs.Hosting.{Hosts, IsDrawn, IsFresh, Telling}
use Rattle.hyper_calls.specs.Exchange.{Exchange}
use Rattle.journal_model.specs.Legal.{is_waiting, request_function}
use Rattle.journal_model.specs.Reads.{Service as Known, service_of}
use Rattle.journal_model.specs.State.{State}
use Rattle.journal_model.specs.declared.answer.How.TheVariants as how
use Rattle.plan_model.specs.Outline.{Outline}
use Rattle.request_service.specs.declared.service.Origin.{Origin}
use Rattle.request_service.specs.declared.service.Service.{Service}
use Rattle.request_service.specs.declared.service.Unserved.{Unserved}
use Rattle.request_service.specs.declared.service.Work.{Work}
use Rattle.request_service.specs.declared.service.Work.TheVariants.{Deployed, Between}
use Rattle.request_service.specs.declared.service.Work.TheVariants.{Layer, Request}
use Rattle.service_model.specs.Going.{given_in}

-- ---- what its line will say of the context

-- what the journal is to say of the context of a request
abbrev pub known_of : Origin → Known
known_of o = record { how = o.how; context = o.context; used = o.used }

-- the journal says so of the request
abbrev pub IsKnownAs : Origin → State → Type 0
IsKnownAs o s = service_of s o.i ≡ known_of o

-- ---- a request that waits for a context

-- what the journal says of the context of a request that nothing served
abbrev pub unknown : Known
unknown = record { how = how.None; context = 0; used = 0 }

module _ {C L H : Type 0} where
  -- it was started, is for the function, and nothing serves it
  pub record Waits (request : Unserved) (book : Shared C L H) : Type 0 where
    pub waiting : is_waiting book.state request.i ≡ true
    pub for_function : request_function book.state request.i ≡ request.function
    pub known : service_of book.state request.i ≡ unknown

-- ---- one that a context serves

module _ {S L H : Type 0} (plan : Outline) (telling : Telling S) where
  -- the context serves the request, and is in a run
  abbrev pub HostsInRun : (i : ℕ) → ContextView S → Shared (ContextView S) L H → Type 0
  HostsInRun i c book = Hosts plan telling i (record c { still = true }) book

  -- its space was deployed for the function, and is to be finished
  pub record IsToBegin (i function : ℕ) (d : NewContext S) (book : Shared (ContextView S) L H)
      : Type 0 where
    pub fresh : IsFresh plan telling function d
    pub drawn : IsDrawn i function d book

module _ {S L H : Type 0} (plan : Outline) (telling : Telling S) (ports : Exchange) where
  -- it is in the run of the layer above it, which is on its function's stack
  pub record IsInLayer (i : ℕ) (c : ContextView S) (run : LayerRun)
      (book : Shared (ContextView S) L H) : Type 0 where
    pub hosts : HostsInRun plan telling i c book
    pub on_way : IsOnStack c.plan c.function (Some run.number)
    pub under_way : IsLayerUnderWay c (telling.flat c.space) ports run

  -- it is in the run of the request, with what the request was given
  pub record IsInRequest (i : ℕ) (c : ContextView S) (run : RequestRun)
      (book : Shared (ContextView S) L H) : Type 0 where
    pub hosts : HostsInRun plan telling i c book
    pub under_way : IsRequestUnderWay c (telling.flat c.space) ports run
    pub own : given_in book.started i ≡ Some run.given

  -- how far the context has come
  abbrev pub IsAt : (i : ℕ) → Work (ContextView S) S → Shared (ContextView S) L H → Type 0
  IsAt i (Deployed function d) book = IsToBegin plan telling i function d book
  IsAt i (Between c) book = Hosts plan telling i c book
  IsAt i (Layer c run) book = IsInLayer i c run book
  IsAt i (Request c run) book = IsInRequest i c run book

  -- the request is open, its context serves it and is where the service has it
  pub record IsUnderWay (service : Service (ContextView S) S) (book : Shared (ContextView S) L H)
      : Type 0 where
    pub known : IsKnownAs service.origin book.state
    pub at_it : IsAt service.origin.i service.work book

-- ---- how far it has come, in numbers

module _ {S : Type 0} where
  -- how many instructions its run has counted so far
  abbrev pub counted_in : Work (ContextView S) S → ℕ
  counted_in (Deployed function d) = 0
  counted_in (Between c) = 0
  counted_in (Layer c run) = run.done
  counted_in (Request c run) = run.done

  -- how many layers there may be up to where its context stands
  abbrev pub level_in : Work (ContextView S) S → ℕ
  level_in (Deployed function d) = level_of d.from
  level_in (Between c) = level_of c.layer
  level_in (Layer c run) = level_of c.layer
  level_in (Request c run) = level_of c.layer
