-- What is asked where a layer's run ends.
use Rattle.std.specs.Prelude.{Some}
use Rattle.book_model.specs.Shared.{Shared}
use Rattle.context_runs.specs.OfLayers.{HasStopped, IsOnStack}
use Rattle.context_runs.specs.declared.layer_run.LayerRun.{LayerRun}
use Rattle.context_uc.specs.Views.{ContextView, LayerView}
use Rattle.deployer.specs.Grounds.{AreGrounds, IsSizedBy}
use Rattle.deployer.specs.Hosting.{Telling}
use Rattle.machine_model.specs.declared.stop.Stop.{Stop}
use Rattle.request_service.specs.UnderWay.{HostsInRun, IsKnownAs}
use Rattle.request_service.specs.declared.service.InRun.{InRun}
use Rattle.space_api.specs.Flat.{Flat}

-- The run of the layer above the context stopped so. The layer is on the way to the function's; the
-- context serves its request; the book is that of the context's plan.
pub record MayEnd {S Z H : Type 0} (telling : Telling S) (flat : Z → Flat)
    (is_context : ContextView S → Type 0) (is_layer : LayerView Z → Type 0)
    (at : InRun (ContextView S) LayerRun) (stop : Stop)
    (book : Shared (ContextView S) (LayerView Z) H) : Type 0 where
  pub sizes : IsSizedBy at.context.plan book.sizes
  pub grounds : AreGrounds at.context.plan flat is_context is_layer
  pub known : IsKnownAs at.origin book.state
  pub hosts : HostsInRun at.context.plan telling at.origin.i at.context book
  pub on_way : IsOnStack at.context.plan at.context.function (Some at.run.number)
  pub stopped : HasStopped at.context (telling.flat at.context.space) at.run stop
