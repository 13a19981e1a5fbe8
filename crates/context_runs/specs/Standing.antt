-- Where a context begins.
use Rattle.std.specs.Prelude.{ℕ, Option}
use Rattle.layer_model.specs.Layers.{IsPlace}
use Rattle.layer_model.specs.Replies.{IsFunction}
use Rattle.machine_model.specs.Machine.{Machine}
use Rattle.plan_model.specs.Outline.{Outline}
use Rattle.plan_model.specs.declared.function.PlanFunction.{PlanFunction}
use Rattle.plan_model.specs.declared.layer.PlanLayer.{PlanLayer}

-- the machine stands at the place, over the image of the function's layer
pub record StandsFor (plan : Outline) (number : ℕ) (place : Option ℕ) (m : Machine) : Type 0 where
  pub function : PlanFunction
  pub layer : PlanLayer
  pub function_is : IsFunction plan number function layer
  pub place_is : IsPlace plan layer.start place m
