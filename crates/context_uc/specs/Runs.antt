-- What a context's last run came to.
use Rattle.std.specs.Prelude.{◌≡◌, ℕ, [], Some, slice_get}
use Rattle.machine_model.specs.Machine.{Machine}
use Rattle.machine_model.specs.declared.stop.Stop.TheVariants.{Rest, Trigger}
use Rattle.layer_model.specs.Layers.{IsPlace, IsLayerRun}
use Rattle.layer_model.specs.Replies.{IsContext, IsFunction, IsRequestRun}
use Rattle.plan_model.specs.declared.function.PlanFunction.{PlanFunction}
use Rattle.plan_model.specs.declared.layer.PlanLayer.{PlanLayer}
use Rattle.space_api.specs.Flat.{Flat, Traffic, machine_of}
use Rattle.space_api.specs.declared.given.Given.{Given}
use Rattle.context_uc.specs.Views.{ContextView}

-- The run of a request rested, from the model's machine after the context's layer and what it
-- served before.
pub record HasRested {S : Type 0} (c : ContextView S) (flat : Flat) (given : Given) : Type 0 where
  pub function : PlanFunction
  pub layer : PlanLayer
  pub function_is : IsFunction c.plan c.function function layer
  pub context : Machine
  pub context_is : IsContext c.plan layer.start c.layer c.served context
  pub counted : ℕ
  pub traffic : Traffic
  pub run : IsRequestRun c.plan context given
      (record { stop = Rest; number = counted; machine = machine_of c.hart flat traffic })

-- The run of the layer above came to its trigger, from the model's machine where the context
-- stands. The context has served nothing.
pub record HasReached {S : Type 0} (c : ContextView S) (flat : Flat) (number : ℕ) : Type 0 where
  pub function : PlanFunction
  pub top : PlanLayer
  pub function_is : IsFunction c.plan c.function function top
  pub layer : PlanLayer
  pub layer_is : slice_get c.plan.layers number ≡ Some layer
  pub start_is : layer.start ≡ top.start
  pub below_is : layer.below ≡ c.layer
  pub unused : c.served ≡ []
  pub place : Machine
  pub place_is : IsPlace c.plan layer.start c.layer place
  pub counted : ℕ
  pub traffic : Traffic
  pub run : IsLayerRun c.plan layer place
      (record { stop = Trigger; number = counted; machine = machine_of c.hart flat traffic })
