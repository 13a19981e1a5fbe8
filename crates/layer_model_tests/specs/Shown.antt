-- What is said of a worked layer.
use Rattle.std.specs.Prelude.{◌≡◌, ℕ, false, List, []}
use Rattle.layer_model.specs.Layers.{IsLayer, IsNoLayer, IsPlace, IsStep}
use Rattle.layer_model_tests.specs.Plans.{sum_at}
use Rattle.machine_model.specs.Machine.{Machine, bytes_at}
use Rattle.machine_model.specs.declared.stop.Stop.{Stop}
use Rattle.plan_model.specs.Outline.{Outline}

-- From the place below, the layer's run stops at its trigger after so many instructions. There it
-- stands with these eight bytes of the sum, which don't count as written, with no packet queued
-- or sent, and nothing on the console.
pub record LayerShows (plan : Outline) (number counted pc : ℕ) (bytes : List ℕ) : Type 0 where
  pub below : Machine
  pub machine : Machine
  pub layer : IsLayer plan number machine
  pub stands : IsPlace plan layer.layer.start layer.layer.below below
  pub step : IsStep plan number below machine
  pub counted_is : step.counted ≡ counted
  pub pc_is : machine.pc ≡ pc
  pub bytes_are : bytes_at machine.memory sum_at 8 ≡ bytes
  pub written_is : machine.written 32 ≡ false
  pub queue_is : machine.queue ≡ []
  pub sent_is : machine.sent ≡ []
  pub console_is : machine.console ≡ []

-- there is no layer of the number, as its run stops so after so many instructions
pub record NoLayerShows (plan : Outline) (number counted : ℕ) (why : Stop) : Type 0 where
  pub no_layer : IsNoLayer plan number why
  pub counted_is : no_layer.counted ≡ counted
