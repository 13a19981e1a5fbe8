-- Where contexts stand.
use Rattle.std.specs.Prelude.{◌≡◌, ℕ, true, [], Option, None, Some, slice_get}
use Rattle.layer_model.specs.Replies.{IsFunction}
use Rattle.plan_model.specs.declared.function.PlanFunction.{PlanFunction}
use Rattle.plan_model.specs.declared.layer.PlanLayer.{PlanLayer}
use Rattle.space_api.specs.Holding.{Pin}
use Rattle.context_uc.specs.Views.{ContextView}

-- its space isn't pinned, and it may serve 64 requests
pub record IsOpen {S : Type 0} (pin : S → Option Pin) (c : ContextView S) : Type 0 where
  pub loose : pin c.space ≡ None
  pub uses : c.uses ≡ 64

-- the layer is the plan's of the number, and stands directly above the context, which is between
-- runs and has served nothing
pub record StandsBelow {S : Type 0} (c : ContextView S) (number : ℕ) (layer : PlanLayer)
    : Type 0 where
  pub function : PlanFunction
  pub top : PlanLayer
  pub function_is : IsFunction c.plan c.function function top
  pub layer_is : slice_get c.plan.layers number ≡ Some layer
  pub start_is : layer.start ≡ top.start
  pub below_is : layer.below ≡ c.layer
  pub unused : c.served ≡ []
  pub still : c.still ≡ true
