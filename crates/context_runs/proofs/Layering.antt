-- The run of a layer, and what comes of it, by what is known of the context.
use Rattle.std.proofs.Common.{◌≡◌, ℕ, ◌≤◌, Bool, true, false, List, [], Option, Some, slice_get}
use Rattle.std.proofs.Common.{IfSome, refl, ap, sym, ◌∙◌, subst, arith}
use Rattle.hyper_calls.specs.Exchange.{Exchange, starting}
use Rattle.journal_model.specs.declared.answer.Why.{Why}
use Rattle.journal_model.specs.declared.answer.Why.TheVariants as why
use Rattle.layer_model.specs.Layers.{IsPlace, IsLayer, IsNoLayer, IsLayerRun, layer_limits}
use Rattle.layer_model.specs.Replies.{IsContext, IsFunction, Serves}
use Rattle.machine_model.specs.Machine.{Machine}
use Rattle.machine_model.specs.Run.{Limits}
use Rattle.machine_model.specs.declared.stop.Stop.{Stop}
use Rattle.machine_model.specs.declared.stop.Stop.TheVariants as stop
use Rattle.plan_model.specs.Outline.{Outline, AreParts}
use Rattle.plan_model.specs.declared.function.PlanFunction.{PlanFunction}
use Rattle.plan_model.specs.declared.layer.PlanLayer.{PlanLayer}
use Rattle.space_api.specs.Flat.{Flat, machine_of}
use Rattle.space_api.specs.Stores.{frozen}
use Rattle.space_api.specs.declared.given.Given.{Given}
use Rattle.context_uc.proofs.Captures.{reached_stands}
use Rattle.context_uc.specs.Runs.{HasReached}
use Rattle.context_uc.specs.Views.{ContextView, IsModel, silent}
use Rattle.context_runs.specs.OfLayers.{EndsLayerPart, HasStopped, IsAbove, IsLayerUnderWay}
use Rattle.context_runs.specs.OfLayers.{stop_of_why}
use Rattle.context_runs.specs.SoFar.{EndsInTime, EndsPart, IsSoFar, Begun}
use Rattle.context_runs.specs.declared.layer_run.LayerRun.{LayerRun}
use Rattle.context_runs.specs.declared.part.PartEnd.{PartEnd}
use Rattle.context_runs.specs.declared.part.PartEnd.TheVariants as part

one_of : {A : Type 0} (o : Option A) (a b : A) → o ≡ Some a → o ≡ Some b → a ≡ b
one_of o a b is also = cc

-- a function has one layer
pub one_top : (plan : Outline) (n : ℕ) (f g : PlanFunction) (l k : PlanLayer)
    → IsFunction plan n f l → IsFunction plan n g k → l ≡ k
one_top plan n f g l k a b =
    one_of (slice_get plan.layers g.layer) l k
    (subst (λ (h : PlanFunction). slice_get plan.layers h.layer ≡ Some l)
    (one_of (slice_get plan.functions n) f g a.function_is b.function_is) a.layer_is) b.layer_is

-- a context that served nothing stands at its place
stands_still : (plan : Outline) (start : ℕ) (place : Option ℕ) (served : List Given) (m : Machine)
    → IsContext plan start place served m → served ≡ [] → IsPlace plan start place m
stands_still plan start place served m context unused =
    subst (IsPlace plan start place)
    (subst (λ s. Serves plan s context.base m) unused context.serves) context.stands

-- a context between runs stands at its place, over the start of the layer above it
place_below : {S : Type 0} (c : ContextView S) (m : Machine) (number : ℕ) (a : IsAbove c number)
    → IsModel c.plan c.function c.layer c.served m
    → IsPlace c.plan a.above.layer.start c.layer m
place_below c m number a model =
    let tops = one_top c.plan c.function model.function a.above.function model.layer a.above.top
    model.function_is a.above.function_is in
    subst (λ start. IsPlace c.plan start c.layer m)
    (ap (λ (l : PlanLayer). l.start) tops ∙ sym a.above.start_is)
    (stands_still c.plan model.layer.start c.layer c.served m model.context_is a.unused)

-- the run of the layer begins
pub layer_begins : {S : Type 0} (c : ContextView S) (flat : Flat) (ports : Exchange) (number : ℕ)
    (packets : List (List ℕ)) (a : IsAbove c number) → (c.still ≡ true
    → IsModel c.plan c.function c.layer c.served (machine_of c.hart flat silent))
    → c.still ≡ true → packets ≡ a.above.layer.packets → ports ≡ starting 0 packets
    → IsLayerUnderWay c flat ports (record { number = number; done = 0 })
layer_begins c flat ports number packets a model still packets_are ports_are =
    let ports_is : ports ≡ starting 0 a.above.layer.packets
    = ports_are ∙ ap (starting 0) packets_are in
    record {
      is_above = a;
      place = machine_of c.hart flat silent;
      place_is = place_below c (machine_of c.hart flat silent) number a (model still);
      clock_is = ap (λ (x : Exchange). x.clock) ports_is;
      within = omega arith;
      so_far = Begun refl (ap (λ (x : Exchange). machine_of c.hart flat x.traffic) ports_is);
    }

-- the layer stands above the context still, once it ran
above_still : {S : Type 0} (c : ContextView S) (new : ContextView S) (number : ℕ)
    → IsAbove c number
    → IsAbove (record c { still = false; hart = new.hart; space = new.space }) number
above_still c new number a = record { above = a.above; unused = a.unused }

-- where the run is after a part, by how that ended
layer_went : {S : Type 0} (c new : ContextView S) (flat new_flat : Flat)
    (ports new_ports : Exchange) (run : LayerRun) (done : ℕ) (p : PartEnd)
    (u : IsLayerUnderWay c flat ports run) → new_ports.clock ≡ ports.clock
    → done ≤ c.plan.numbers.prepare
    → EndsPart 0 (layer_limits c.plan u.is_above.above.layer) u.place
    u.is_above.above.layer.packets p done (machine_of new.hart new_flat new_ports.traffic)
    → EndsLayerPart (record c { still = false; hart = new.hart; space = new.space }) new_flat
    new_ports (record { number = run.number; done = done }) p
unfolding above_still
layer_went c new flat new_flat ports new_ports run done (part.Stopped why) u clock within ends =
    record {
      is_above = above_still c new run.number u.is_above;
      place = u.place;
      place_is = u.place_is;
      traffic = new_ports.traffic;
      run_is = ends;
    }
layer_went c new flat new_flat ports new_ports run done part.Paused u clock within ends = record {
  is_above = above_still c new run.number u.is_above;
  place = u.place;
  place_is = u.place_is;
  clock_is = clock ∙ u.clock_is;
  within = within;
  so_far = ends;
}
layer_went c new flat new_flat ports new_ports run done part.Memory u clock within ends = record {
  is_above = above_still c new run.number u.is_above;
  place = u.place;
  place_is = u.place_is;
  clock_is = clock ∙ u.clock_is;
  within = within;
  so_far = ends;
}

-- the limits that a call read are the layer's
pub limits_read : (plan read : Outline) (layer found : PlanLayer) (limits : Limits)
    → limits ≡ layer_limits read found → read ≡ plan → found ≡ layer
    → limits ≡ layer_limits plan layer
limits_read plan read layer found limits is read_is found_is =
    is ∙ ap (λ p. layer_limits p found) read_is ∙ ap (layer_limits plan) found_is

-- a part ends in time for the layer
pub layer_in_time : (lacks : Bool) (plan : Outline) (number : ℕ) (layer : PlanLayer)
    (limits : Limits) (read pause : Option ℕ) (p : PartEnd) (from done : ℕ) (new : Machine)
    → slice_get plan.layers number ≡ Some layer → limits ≡ layer_limits plan layer
    → read ≡ pause → EndsInTime lacks limits read p from done new
    → IfSome (slice_get plan.layers number)
    (λ found. EndsInTime lacks (layer_limits plan found) pause p from done new)
layer_in_time lacks plan number layer limits read pause p from done new layer_is limits_are
    read_is ends =
    subst (λ o. IfSome o
    (λ found. EndsInTime lacks (layer_limits plan found) pause p from done new)) (sym layer_is)
    (subst (λ l. EndsInTime lacks l pause p from done new) limits_are
    (subst (λ n. EndsInTime lacks limits n p from done new) read_is ends))

-- a part of the layer's run ends as the part of the run does
pub layer_goes : {S : Type 0} (c new : ContextView S) (flat new_flat : Flat)
    (ports new_ports : Exchange) (run new_run : LayerRun) (p : PartEnd) (limits : Limits)
    (u : IsLayerUnderWay c flat ports run)
    → new ≡ record c { still = false; hart = new.hart; space = new.space }
    → new_run ≡ record { number = run.number; done = new_run.done }
    → new_ports.clock ≡ ports.clock → new_run.done ≤ c.plan.numbers.prepare
    → limits ≡ layer_limits c.plan u.is_above.above.layer
    → ((m : Machine) (packets : List (List ℕ))
    → IsSoFar ports.clock limits m packets run.done (machine_of c.hart flat ports.traffic)
    → EndsPart ports.clock limits m packets p new_run.done
    (machine_of new.hart new_flat new_ports.traffic))
    → EndsLayerPart new new_flat new_ports new_run p
layer_goes c new flat new_flat ports new_ports run new_run p limits u same run_is clock within
    limits_are ends =
    let to = machine_of new.hart new_flat new_ports.traffic in
    let on : IsSoFar ports.clock limits u.place u.is_above.above.layer.packets run.done
    (machine_of c.hart flat ports.traffic)
    → EndsPart ports.clock limits u.place u.is_above.above.layer.packets p new_run.done to
    = ends u.place u.is_above.above.layer.packets in
    let at_limits = subst (λ l. IsSoFar ports.clock l u.place u.is_above.above.layer.packets
    run.done (machine_of c.hart flat ports.traffic)
    → EndsPart ports.clock l u.place u.is_above.above.layer.packets p new_run.done to)
    limits_are on in
    let at_clock = subst (λ t. IsSoFar t (layer_limits c.plan u.is_above.above.layer) u.place
    u.is_above.above.layer.packets run.done (machine_of c.hart flat ports.traffic)
    → EndsPart t (layer_limits c.plan u.is_above.above.layer) u.place
    u.is_above.above.layer.packets p new_run.done to) u.clock_is at_limits in
    subst (λ v. EndsLayerPart v new_flat new_ports new_run p) (sym same)
    (subst (λ r. EndsLayerPart (record c { still = false; hart = new.hart; space = new.space })
    new_flat new_ports r p) (sym run_is)
    (layer_went c new flat new_flat ports new_ports run new_run.done p u clock within
    (at_clock u.so_far)))

-- ---- what comes of the run

-- a run that came to the trigger lets the layer be captured
pub reached : {S : Type 0} (c : ContextView S) (flat : Flat) (run : LayerRun) (why : Stop)
    → HasStopped c flat run why → why ≡ stop.Trigger → HasReached c flat run.number
reached c flat run why h is = record {
  function = h.is_above.above.function;
  top = h.is_above.above.top;
  function_is = h.is_above.above.function_is;
  layer = h.is_above.above.layer;
  layer_is = h.is_above.above.layer_is;
  start_is = h.is_above.above.start_is;
  below_is = h.is_above.above.below_is;
  unused = h.is_above.unused;
  place = h.place;
  place_is = h.place_is;
  counted = run.done;
  traffic = h.traffic;
  run = subst (λ s. IsLayerRun c.plan h.is_above.above.layer h.place (record {
    stop = s;
    number = run.done;
    machine = machine_of c.hart flat h.traffic;
  })) is h.run_is;
}

-- what the context was at the trigger, with nothing written, is the plan's layer
pub is_layer : {S : Type 0} (c new : ContextView S) (flat new_flat : Flat) (number : ℕ)
    → AreParts c.plan → HasReached c flat number → new.hart ≡ c.hart → new_flat ≡ frozen flat
    → IsLayer c.plan number (machine_of new.hart new_flat silent)
is_layer c new flat new_flat number parts h hart_is flat_is = record {
  layer = h.layer;
  layer_is = h.layer_is;
  place = subst (λ x. IsPlace c.plan h.layer.start (Some number) (machine_of x new_flat silent))
      (sym hart_is)
      (subst (λ f. IsPlace c.plan h.layer.start (Some number) (machine_of c.hart f silent))
      (sym flat_is) (reached_stands c flat number parts h));
}

-- no reason is the trigger
why_elsewhere : (why : Why) → stop_of_why why ≡ stop.Trigger → ⊥
why_elsewhere why.Rest is = cc
why_elsewhere (why.Halt code) is = cc
why_elsewhere (why.Fault cause pc tval) is = cc
why_elsewhere why.Budget is = cc

-- a run that stopped elsewhere is why there is no layer
pub is_no_layer : {S : Type 0} (c : ContextView S) (flat : Flat) (run : LayerRun) (stopped : Stop)
    (why : Why) → HasStopped c flat run stopped → stopped ≡ stop_of_why why
    → IsNoLayer c.plan run.number (stop_of_why why)
is_no_layer c flat run stopped why h is = record {
  layer = h.is_above.above.layer;
  layer_is = h.is_above.above.layer_is;
  below = h.place;
  place = subst (λ p. IsPlace c.plan h.is_above.above.layer.start p h.place)
      (sym h.is_above.above.below_is) h.place_is;
  counted = run.done;
  stopped = machine_of c.hart flat h.traffic;
  run = subst (λ s. IsLayerRun c.plan h.is_above.above.layer h.place (record {
    stop = s;
    number = run.done;
    machine = machine_of c.hart flat h.traffic;
  })) is h.run_is;
  elsewhere = why_elsewhere why;
}
