-- The run of the layer above a context: where it is, how it ends, and what comes of it.
use Rattle.std.specs.Prelude.{◌≡◌, ◌≢◌, ℕ, ◌≤◌, Bool, true, [], Option, Some, IfSome, slice_get}
use Rattle.hyper_calls.specs.Exchange.{Exchange}
use Rattle.journal_model.specs.State.{contains, layer_above}
use Rattle.journal_model.specs.declared.answer.Why.{Why}
use Rattle.journal_model.specs.declared.answer.Why.TheVariants as why
use Rattle.layer_model.specs.Layers.{IsPlace, IsLayer, IsNoLayer, IsLayerRun, layer_limits}
use Rattle.layer_model.specs.Replies.{IsFunction}
use Rattle.machine_model.specs.Machine.{Machine}
use Rattle.machine_model.specs.declared.stop.Stop.{Stop}
use Rattle.machine_model.specs.declared.stop.Stop.TheVariants as stop
use Rattle.plan_model.specs.Outline.{Outline}
use Rattle.plan_model.specs.Stacks.{stack}
use Rattle.plan_model.specs.declared.function.PlanFunction.{PlanFunction}
use Rattle.plan_model.specs.declared.layer.PlanLayer.{PlanLayer}
use Rattle.space_api.specs.Flat.{Flat, Traffic, machine_of}
use Rattle.space_api.specs.Holding.{Holding}
use Rattle.space_api.specs.Stores.{Frozen, Spaced}
use Rattle.context_uc.specs.Takes.{Takes}
use Rattle.context_uc.specs.Views.{ContextView, LayerView, silent}
use Rattle.context_uc.specs.declared.capturing.Taken.TheVariants as taken
use Rattle.context_runs.specs.SoFar.{IsSoFar}
use Rattle.context_runs.specs.declared.layer_end.LayerEnd.{LayerEnd}
use Rattle.context_runs.specs.declared.layer_end.LayerEnd.TheVariants.{Reached, Missed, Memory}
use Rattle.context_runs.specs.declared.layer_run.LayerRun.{LayerRun}
use Rattle.context_runs.specs.declared.part.PartEnd.{PartEnd}
use Rattle.context_runs.specs.declared.part.PartEnd.TheVariants as part

-- ---- where the layer is

-- the place is a layer of the function's stack, or the image below them all
pub record IsOnStack (plan : Outline) (number : ℕ) (place : Option ℕ) : Type 0 where
  pub function : PlanFunction
  pub top : PlanLayer
  pub function_is : IsFunction plan number function top
  pub stands : IfSome place (λ k. contains k (stack plan.layers function.layer) ≡ true)

-- the place is the function's own layer
pub record IsTop (plan : Outline) (number : ℕ) (place : Option ℕ) : Type 0 where
  pub function : PlanFunction
  pub layer : PlanLayer
  pub function_is : IsFunction plan number function layer
  pub place_is : place ≡ Some function.layer

-- The layer stands directly above the place in the function's stack, and the place isn't the
-- function's own layer.
pub record StandsAbove (plan : Outline) (number : ℕ) (place : Option ℕ) (above : ℕ) : Type 0 where
  pub function : PlanFunction
  pub top : PlanLayer
  pub function_is : IsFunction plan number function top
  pub place_is : place ≢ Some function.layer
  pub above_is : layer_above place (stack plan.layers function.layer) ≡ Some above
  pub layer : PlanLayer
  pub layer_is : slice_get plan.layers above ≡ Some layer
  pub start_is : layer.start ≡ top.start
  pub below_is : layer.below ≡ place

-- the layer stands directly above the context, which has served nothing
pub record IsAbove {S : Type 0} (c : ContextView S) (number : ℕ) : Type 0 where
  pub above : StandsAbove c.plan c.function c.layer number
  pub unused : c.served ≡ []

-- ---- its run

-- The run of the layer above the context is so far, from what stands at the context's place.
pub record IsLayerUnderWay {S : Type 0} (c : ContextView S) (flat : Flat) (ports : Exchange)
    (run : LayerRun) : Type 0 where
  pub is_above : IsAbove c run.number
  pub place : Machine
  pub place_is : IsPlace c.plan is_above.above.layer.start c.layer place
  pub clock_is : ports.clock ≡ 0
  pub within : run.done ≤ c.plan.numbers.prepare
  pub so_far : IsSoFar 0 (layer_limits c.plan is_above.above.layer) place
      is_above.above.layer.packets run.done (machine_of c.hart flat ports.traffic)

-- The run of the layer above the context stopped so, from what stands at the context's place.
pub record HasStopped {S : Type 0} (c : ContextView S) (flat : Flat) (run : LayerRun)
    (why : Stop) : Type 0 where
  pub is_above : IsAbove c run.number
  pub place : Machine
  pub place_is : IsPlace c.plan is_above.above.layer.start c.layer place
  pub traffic : Traffic
  pub run_is : IsLayerRun c.plan is_above.above.layer place
      (record { stop = why; number = run.done; machine = machine_of c.hart flat traffic })

-- a part of the layer's run ends so
abbrev pub EndsLayerPart : {S : Type 0} → ContextView S → Flat → Exchange → LayerRun → PartEnd →
    Type 0
EndsLayerPart c flat ports run (part.Stopped why) = HasStopped c flat run why
EndsLayerPart c flat ports run part.Paused = IsLayerUnderWay c flat ports run
EndsLayerPart c flat ports run part.Memory = IsLayerUnderWay c flat ports run

-- ---- what comes of it

-- the stop that is told as the reason why there is no layer
abbrev pub stop_of_why : Why → Stop
stop_of_why why.Rest = stop.Rest
stop_of_why (why.Halt code) = stop.Halt code
stop_of_why (why.Fault cause pc tval) = stop.Exception cause pc tval
stop_of_why why.Budget = stop.Budget

-- After the run of the layer of the number, where this is what memory and spaces tell and hold. It
-- came to its trigger: the layer is taken and the context stands at it, and that is the plan's
-- layer. Or it stopped elsewhere, which is why the plan has no such layer.
abbrev pub EndsLayer : {Z S : Type 0} → (takes lacks : Bool) → (frozen_told : Z → Frozen) →
    (frozen_held : Z → Holding) → (spaced : S → Spaced) → (space_held : S → Holding) →
    (number : ℕ) → (stopped : Stop) → (old : ContextView S) →
    LayerEnd (LayerView Z) (ContextView S) → Type 0
EndsLayer takes lacks frozen_told frozen_held spaced space_held number stopped old
    (Reached layer new pages) =
    (stopped ≡ stop.Trigger)
    × Takes takes lacks frozen_told frozen_held spaced space_held number old
    (taken.Done layer new pages)
    × IsLayer old.plan number (machine_of new.hart (spaced new.space).flat silent)
EndsLayer takes lacks frozen_told frozen_held spaced space_held number stopped old
    (Missed new why) =
    (stopped ≡ stop_of_why why) × (new ≡ old) × IsNoLayer old.plan number (stop_of_why why)
EndsLayer takes lacks frozen_told frozen_held spaced space_held number stopped old (Memory new) =
    (stopped ≡ stop.Trigger)
    × Takes takes lacks frozen_told frozen_held spaced space_held number old (taken.Memory new)
