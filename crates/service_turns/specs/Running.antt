-- A service in a run.
use Rattle.std.specs.Prelude.{ℕ}
use Rattle.book_model.specs.Shared.{Shared}
use Rattle.context_runs.specs.declared.layer_run.LayerRun.{LayerRun}
use Rattle.context_runs.specs.declared.request_run.RequestRun.{RequestRun}
use Rattle.context_uc.specs.Views.{ContextView, LayerView}
use Rattle.deployer.specs.Grounds.{AreGrounds, IsSizedBy}
use Rattle.deployer.specs.Hosting.{Telling}
use Rattle.hyper_calls.specs.Exchange.{Exchange}
use Rattle.plan_model.specs.Outline.{Outline}
use Rattle.request_service.specs.UnderWay.{IsInLayer, IsInRequest, IsKnownAs}
use Rattle.request_service.specs.declared.service.InRun.{InRun}
use Rattle.request_service.specs.declared.service.Turned.{Turned}
use Rattle.request_service.specs.declared.service.Turned.TheVariants.{Went, Answered}
use Rattle.service_requests.specs.Requesting.{IsAnswered}
use Rattle.space_api.specs.Flat.{Flat}

module _ {S Z H : Type 0} (telling : Telling S) (flat : Z → Flat)
    (is_context : ContextView S → Type 0) (is_layer : LayerView Z → Type 0) where
  -- it is in the run of a layer, and the book is that of its context's plan
  pub record RunsLayer (at : InRun (ContextView S) LayerRun) (ports : Exchange)
      (book : Shared (ContextView S) (LayerView Z) H) : Type 0 where
    pub sizes : IsSizedBy at.context.plan book.sizes
    pub grounds : AreGrounds at.context.plan flat is_context is_layer
    pub known : IsKnownAs at.origin book.state
    pub at_it : IsInLayer at.context.plan telling ports at.origin.i at.context at.run book

  -- it is in the run of its request, and the book is that of its context's plan
  pub record RunsRequest (at : InRun (ContextView S) RequestRun) (ports : Exchange)
      (book : Shared (ContextView S) (LayerView Z) H) : Type 0 where
    pub sizes : IsSizedBy at.context.plan book.sizes
    pub grounds : AreGrounds at.context.plan flat is_context is_layer
    pub known : IsKnownAs at.origin book.state
    pub at_it : IsInRequest at.context.plan telling ports at.origin.i at.context at.run book

-- the request of a run is closed, with the line of that run or that of want of memory
abbrev pub TurnsOver : {S L H : Type 0} → (plan : Outline) → (i done : ℕ) →
    Turned (ContextView S) S → (old new : Shared (ContextView S) L H) → Type 0
TurnsOver plan i done (Went next) old new = ⊥
TurnsOver plan i done (Answered answer) old new = IsAnswered plan i done answer old new
