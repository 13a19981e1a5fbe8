-- What a capture makes is the plan's layer, and a context that stands there.
use Rattle.std.proofs.Common.{◌≡◌, ℕ, ◌+◌, ◌<◌, ◌≤◌, Bool, true, false, List, length, Option}
use Rattle.std.proofs.Common.{None, Some, slice_get, option_and_then, refl, ap, sym}
use Rattle.std.proofs.Common.{◌∙◌}
use Rattle.std.proofs.Common.{subst, arith, slice_index_or, IfSome}
use Rattle.std.proofs.lemmas.Option.{slice_get_within, get_or_from_slice_get}
use Rattle.machine_model.specs.Machine.{Machine}
use Rattle.machine_model.specs.declared.hart.Hart.{Hart}
use Rattle.machine_model.specs.declared.stop.Stop.TheVariants.{Trigger}
use Rattle.layer_model.proofs.Places.{place_more}
use Rattle.layer_model.specs.Layers.{IsPlace, IsLayerRun}
use Rattle.layer_model.specs.Replies.{Serves}
use Rattle.plan_model.proofs.Stacking.{stand_lower}
use Rattle.plan_model.specs.Outline.{Outline, AreParts}
use Rattle.plan_model.specs.Stacks.{layer_below}
use Rattle.plan_model.specs.declared.layer.PlanLayer.{PlanLayer}
use Rattle.space_api.specs.Flat.{Flat, Traffic, machine_of}
use Rattle.space_api.specs.Holding.{Holding, first_stake, if_taken}
use Rattle.space_api.specs.Stores.{frozen}
use Rattle.context_uc.specs.Runs.{HasReached}
use Rattle.context_uc.specs.Views.{ContextView, IsModel, IsSound, IsReady, HasFew, level_of, silent}

-- the number of what a layer stands on, read off the layer
below_of : (plan : Outline) (number : ℕ) (layer : PlanLayer) (place : Option ℕ)
    → slice_get plan.layers number ≡ Some layer → layer.below ≡ place
    → layer_below plan.layers number ≡ place
below_of plan number layer place layer_is below_is =
    ap (option_and_then (λ l. l.below)) layer_is ∙ below_is

-- the machine at the trigger, with nothing written, stands at the layer
pub stands_at : (plan : Outline) (number : ℕ) (layer : PlanLayer) (place : Option ℕ) (m : Machine)
    (hart : Hart) (flat : Flat) (traffic : Traffic) (counted : ℕ) → AreParts plan
    → slice_get plan.layers number ≡ Some layer → layer.below ≡ place
    → IsPlace plan layer.start place m
    → IsLayerRun plan layer m
    (record { stop = Trigger; number = counted; machine = machine_of hart flat traffic })
    → IsPlace plan layer.start (Some number) (machine_of hart (frozen flat) silent)
stands_at plan number layer place m hart flat traffic counted parts layer_is below_is stands run =
    place_more plan layer.start number place m (machine_of hart (frozen flat) silent)
    (stand_lower plan.layers (length plan.starts) parts.layers)
    (below_of plan number layer place layer_is below_is) stands
    (record {
      layer = layer;
      layer_is = layer_is;
      counted = counted;
      reached = machine_of hart flat traffic;
      run = run;
      after_is = refl;
    })

-- a context whose run reached the layer's trigger stands at the layer, once it is captured
pub reached_stands : {S : Type 0} (c : ContextView S) (flat : Flat) (number : ℕ)
    → AreParts c.plan → (reached : HasReached c flat number)
    → IsPlace c.plan reached.layer.start (Some number) (machine_of c.hart (frozen flat) silent)
reached_stands c flat number parts reached =
    stands_at c.plan number reached.layer c.layer reached.place c.hart flat reached.traffic
    reached.counted parts reached.layer_is reached.below_is reached.place_is reached.run

-- a layer's level is above that of the place that it stands on
level_rises : (place : Option ℕ) (number : ℕ) → ((b : ℕ) → place ≡ Some b → b < number)
    → level_of place + 1 ≤ number + 1
level_rises None number lower = omega arith
level_rises (Some b) number lower = let h = lower b refl in omega (arith, h)

-- what is left of the stake is enough for the higher level
stake_left : (takes : Bool) (old new level_old level_new stripped : ℕ)
    → old ≡ new + if_taken takes 1 → level_old + 1 ≤ level_new
    → (takes ≡ true → first_stake ≤ old + 0 + level_old + stripped)
    → takes ≡ true → first_stake ≤ new + 0 + level_new + stripped
stake_left false old new level_old level_new stripped paid rises enough is = absurd (cc)
stake_left true old new level_old level_new stripped paid rises enough is =
    let h = enough refl in omega (arith, paid, rises, h)

-- its machine is the model's there
taken_is_model : {S : Type 0} (c : ContextView S) (number : ℕ) (flat new_flat : Flat)
    → AreParts c.plan → HasReached c flat number → new_flat ≡ frozen flat
    → IsModel c.plan c.function (Some number) c.served (machine_of c.hart new_flat silent)
taken_is_model c number flat new_flat parts reached flat_is = record {
  function = reached.function;
  layer = reached.top;
  function_is = reached.function_is;
  context_is = record {
    base = machine_of c.hart new_flat silent;
    stands = subst (λ start. IsPlace c.plan start (Some number) (machine_of c.hart new_flat silent))
        reached.start_is
        (subst (λ f. IsPlace c.plan reached.layer.start (Some number) (machine_of c.hart f silent))
        (sym flat_is) (reached_stands c flat number parts reached));
    serves = subst (λ served. Serves c.plan served (machine_of c.hart new_flat silent)
        (machine_of c.hart new_flat silent)) (sym reached.unused) refl;
  };
}

-- what a layer stands on is earlier
place_lower : {S : Type 0} (c : ContextView S) (flat : Flat) (number : ℕ) → AreParts c.plan
    → HasReached c flat number → (b : ℕ) → c.layer ≡ Some b → b < number
place_lower c flat number parts reached b is =
    stand_lower c.plan.layers (length c.plan.starts) parts.layers number b
    (below_of c.plan number reached.layer c.layer reached.layer_is reached.below_is ∙ is)

few_taken : {S : Type 0} (c : ContextView S) (flat : Flat) (number : ℕ) → AreParts c.plan
    → HasReached c flat number → HasFew c.layer c.served c.uses c.stripped
    → HasFew (Some number) c.served c.uses c.stripped
few_taken c flat number parts reached few = record {
  served_few = few.served_few;
  uses_few = few.uses_few;
  level_few =
      let within = slice_get_within c.plan.layers number reached.layer reached.layer_is in
      let most = parts.layer_count.1 in
      omega (arith, within, most);
  stripped_few = few.stripped_few;
}

ready_taken : {S : Type 0} (takes : Bool) (c : ContextView S) (flat : Flat) (number : ℕ)
    (finished new_finished : Bool) (held new_held : Holding) → AreParts c.plan
    → HasReached c flat number → IsReady takes c.layer c.stripped finished held
    → held.pin ≡ None → new_finished ≡ true → held.stake ≡ new_held.stake + if_taken takes 1
    → new_held.pin ≡ None → IsReady takes (Some number) c.stripped new_finished new_held
ready_taken takes c flat number finished new_finished held new_held parts reached ready loose
    finished_is paid new_loose = record {
      ready = rw new_loose finished_is;
      stake = rw new_loose (stake_left takes held.stake new_held.stake (level_of c.layer)
          (number + 1)
          c.stripped paid (level_rises c.layer number (place_lower c flat number parts reached))
          (rw loose at ready.stake));
    }

-- the context is sound above its new layer
pub taken_is_sound : {S : Type 0} (takes : Bool) (c : ContextView S) (space : S) (number : ℕ)
    (flat new_flat : Flat) (finished new_finished : Bool) (held new_held : Holding)
    → AreParts c.plan → HasReached c flat number → IsSound takes c flat finished held
    → held.pin ≡ None → new_flat ≡ frozen flat → new_finished ≡ true
    → held.stake ≡ new_held.stake + if_taken takes 1 → new_held.pin ≡ None
    → IsSound takes (record c { layer = Some number; still = true; space = space }) new_flat
    new_finished new_held
taken_is_sound takes c space number flat new_flat finished new_finished held new_held parts
    reached sound loose flat_is finished_is paid new_loose = record {
      model = λ _. taken_is_model c number flat new_flat parts reached flat_is;
      few = few_taken c flat number parts reached sound.few;
      ready = ready_taken takes c flat number finished new_finished held new_held parts reached
          sound.ready loose finished_is paid new_loose;
    }

-- ---- what the code reads and makes

pub layer_read : (xs layers : List PlanLayer) (i number : ℕ) (d layer : PlanLayer) → xs ≡ layers
    → i ≡ number → slice_get layers number ≡ Some layer → slice_index_or xs i d ≡ layer
layer_read xs layers i number d layer xs_are i_is layer_is =
    rw (xs_are, i_is) (get_or_from_slice_get layers number layer d layer_is)

-- what was frozen is the layer's memory
pub kept_stands : {S : Type 0} (c : ContextView S) (flat : Flat) (number : ℕ) (read : PlanLayer)
    (kept : Flat) → AreParts c.plan → (reached : HasReached c flat number)
    → read ≡ reached.layer → kept ≡ frozen flat
    → IsPlace c.plan read.start (Some number) (machine_of c.hart (frozen kept) silent)
kept_stands c flat number read kept parts reached read_is kept_is =
    subst (λ (l : PlanLayer).
    IsPlace c.plan l.start (Some number) (machine_of c.hart (frozen kept) silent)) (sym read_is)
    (subst (λ f. IsPlace c.plan reached.layer.start (Some number)
    (machine_of c.hart (frozen f) silent)) (sym kept_is)
    (reached_stands c flat number parts reached))

-- the layer that was read is the one that was reached
pub start_read : (found : Option PlanLayer) (read layer : PlanLayer) → found ≡ Some layer
    → read ≡ layer → IfSome found (λ (l : PlanLayer). read.start ≡ l.start)
start_read found read layer found_is read_is =
    subst (λ f. IfSome f (λ (l : PlanLayer). read.start ≡ l.start)) (sym found_is)
    (ap (λ (l : PlanLayer). l.start) read_is)
