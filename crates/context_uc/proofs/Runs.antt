-- What a run of a context came to, from what it was between runs.
use Rattle.std.proofs.Common.{◌≡◌, ℕ, false, List, [], ◌∷◌, Some, slice_get, refl, sym, subst}
use Rattle.hyper_calls.specs.Exchange.{starting}
use Rattle.layer_model.specs.Layers.{IsPlace, IsLayerRun, layer_limits}
use Rattle.layer_model.specs.Replies.{IsFunction, IsRequestRun, Serves, request_limits}
use Rattle.machine_model.specs.declared.stop.Stop.TheVariants as stop
use Rattle.machine_run.proofs.Waking.{whole_run}
use Rattle.machine_run.specs.Continued.{RunsOn}
use Rattle.machine_run.specs.declared.limits.RunEnd.TheVariants as end
use Rattle.plan_model.specs.declared.function.PlanFunction.{PlanFunction}
use Rattle.plan_model.specs.declared.layer.PlanLayer.{PlanLayer}
use Rattle.space_api.specs.Flat.{Flat, Traffic, machine_of}
use Rattle.space_api.specs.declared.given.Given.{Given}
use Rattle.context_uc.specs.Runs.{HasRested, HasReached}
use Rattle.context_uc.specs.Views.{ContextView, IsModel, silent}

pub rested_known : {S : Type 0} (old new : ContextView S) (old_flat new_flat : Flat) (given : Given)
    (counted : ℕ) (traffic : Traffic)
    → IsModel old.plan old.function old.layer old.served (machine_of old.hart old_flat silent)
    → new ≡ record old { still = false; hart = new.hart; space = new.space }
    → IsRequestRun old.plan (machine_of old.hart old_flat silent) given (record {
      stop = stop.Rest;
      number = counted;
      machine = machine_of new.hart new_flat traffic;
    })
    → HasRested new new_flat given
rested_known {S = S} old new old_flat new_flat given counted traffic model new_is run =
    subst (λ (v : ContextView S). HasRested v new_flat given) (sym new_is) (record {
      function = model.function;
      layer = model.layer;
      function_is = model.function_is;
      context = machine_of old.hart old_flat silent;
      context_is = model.context_is;
      counted = counted;
      traffic = traffic;
      run = run;
    })

pub rested_at_once : {S : Type 0} (old new : ContextView S) (old_flat new_flat : Flat)
    (given : Given) (counted : ℕ) (traffic : Traffic)
    → IsModel old.plan old.function old.layer old.served (machine_of old.hart old_flat silent)
    → new ≡ record old { still = false; hart = new.hart; space = new.space }
    → RunsOn given.clock (request_limits old.plan) 0
    (machine_of old.hart old_flat (starting given.clock (given.packet ∷ [])).traffic) end.Rest
    counted (machine_of new.hart new_flat traffic)
    → HasRested new new_flat given
rested_at_once old new old_flat new_flat given counted traffic model new_is runs =
    rested_known old new old_flat new_flat given counted traffic model new_is
    (whole_run given.clock (request_limits old.plan) (machine_of old.hart old_flat silent)
    (given.packet ∷ []) end.Rest stop.Rest counted (machine_of new.hart new_flat traffic) refl runs)

pub reached_known : {S : Type 0} (old new : ContextView S) (old_flat new_flat : Flat) (number : ℕ)
    (layer : PlanLayer) (counted : ℕ) (traffic : Traffic)
    → IsModel old.plan old.function old.layer old.served (machine_of old.hart old_flat silent)
    → new ≡ record old { still = false; hart = new.hart; space = new.space } → old.served ≡ []
    → slice_get old.plan.layers number ≡ Some layer → layer.below ≡ old.layer
    → ((function : PlanFunction) (top : PlanLayer)
    → IsFunction old.plan old.function function top → layer.start ≡ top.start)
    → IsLayerRun old.plan layer (machine_of old.hart old_flat silent) (record {
      stop = stop.Trigger;
      number = counted;
      machine = machine_of new.hart new_flat traffic;
    })
    → HasReached new new_flat number
reached_known {S = S} old new old_flat new_flat number layer counted traffic model new_is unused
    layer_is below_is same_start run =
    let start_is = same_start model.function model.layer model.function_is in
    let base_is = subst (λ served. Serves old.plan served model.context_is.base
    (machine_of old.hart old_flat silent)) unused model.context_is.serves in
    let stands = subst (λ m. IsPlace old.plan model.layer.start old.layer m) base_is
    model.context_is.stands in
    subst (λ (v : ContextView S). HasReached v new_flat number) (sym new_is) (record {
      function = model.function;
      top = model.layer;
      function_is = model.function_is;
      layer = layer;
      layer_is = layer_is;
      start_is = start_is;
      below_is = below_is;
      unused = unused;
      place = machine_of old.hart old_flat silent;
      place_is = subst (λ start. IsPlace old.plan start old.layer
          (machine_of old.hart old_flat silent)) (sym start_is) stands;
      counted = counted;
      traffic = traffic;
      run = run;
    })

pub reached_at_once : {S : Type 0} (old new : ContextView S) (old_flat new_flat : Flat)
    (number : ℕ) (layer : PlanLayer) (counted : ℕ) (traffic : Traffic)
    → IsModel old.plan old.function old.layer old.served (machine_of old.hart old_flat silent)
    → new ≡ record old { still = false; hart = new.hart; space = new.space } → old.served ≡ []
    → slice_get old.plan.layers number ≡ Some layer → layer.below ≡ old.layer
    → ((function : PlanFunction) (top : PlanLayer)
    → IsFunction old.plan old.function function top → layer.start ≡ top.start)
    → RunsOn 0 (layer_limits old.plan layer) 0
    (machine_of old.hart old_flat (starting 0 layer.packets).traffic) end.Trigger counted
    (machine_of new.hart new_flat traffic)
    → HasReached new new_flat number
reached_at_once old new old_flat new_flat number layer counted traffic model new_is unused layer_is
    below_is same_start runs =
    reached_known old new old_flat new_flat number layer counted traffic model new_is unused
    layer_is below_is same_start
    (whole_run 0 (layer_limits old.plan layer) (machine_of old.hart old_flat silent) layer.packets
    end.Trigger stop.Trigger counted (machine_of new.hart new_flat traffic) refl runs)
