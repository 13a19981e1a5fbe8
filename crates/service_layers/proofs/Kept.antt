-- The layer that a run made, and how many instructions it took.
use Rattle.std.proofs.Common.{◌≡◌, ℕ, Some, IfSome, IsSomeAnd, slice_get, refl, sym, ◌∙◌, subst}
use Rattle.std.proofs.Common.{Option, None}
use Rattle.context_runs.specs.OfLayers.{HasStopped}
use Rattle.context_runs.specs.declared.layer_run.LayerRun.{LayerRun}
use Rattle.context_uc.specs.Takes.{IsTaken}
use Rattle.context_uc.specs.Views.{ContextView, IsKept, LayerView}
use Rattle.deployer.specs.Grounds as grounds
use Rattle.image_model.specs.Pages.{page_limit}
use Rattle.layer_model.specs.Layers.{IsPlace}
use Rattle.machine_model.specs.Machine.{count_below}
use Rattle.machine_model.specs.declared.stop.Stop.{Stop}
use Rattle.machine_model.specs.declared.stop.Stop.TheVariants as stop
use Rattle.layer_model.specs.Layers.{IsLayerRun}
use Rattle.plan_model.specs.Outline.{Outline}
use Rattle.plan_model.specs.declared.layer.PlanLayer.{PlanLayer}
use Rattle.service_model.specs.Ticking.{IsTaking}
use Rattle.space_api.specs.Flat.{Flat, machine_of}

-- a run that came to its trigger is what the layer took
pub taking : {S : Type 0} (c : ContextView S) (flat : Flat) (run : LayerRun) (why : Stop)
    (pages : ℕ) → HasStopped c flat run why → why ≡ stop.Trigger →
    pages ≡ count_below flat.written page_limit → IsTaking c.plan run.number pages run.done
taking c flat run why pages h is count = record {
  layer = h.is_above.above.layer;
  layer_is = h.is_above.above.layer_is;
  below = h.place;
  place = subst (λ p. IsPlace c.plan h.is_above.above.layer.start p h.place)
      (sym h.is_above.above.below_is) h.place_is;
  after = _;
  step = record {
    layer = h.is_above.above.layer;
    layer_is = h.is_above.above.layer_is;
    counted = run.done;
    reached = machine_of c.hart flat h.traffic;
    run = subst (λ s. IsLayerRun c.plan h.is_above.above.layer h.place (record {
      stop = s;
      number = run.done;
      machine = machine_of c.hart flat h.traffic;
    })) is h.run_is;
    after_is = refl;
  };
  pages_are = count;
  count_is = refl;
}

-- the layer that was taken has the start of its number
start_of : (layers : Option PlanLayer) (l : PlanLayer) (start : ℕ) → layers ≡ Some l →
    IfSome layers (λ (x : PlanLayer). start ≡ x.start) →
    IsSomeAnd layers (λ (x : PlanLayer). start ≡ x.start)
start_of None l start e h = cc
start_of (Some x) l start e h = h

module _ {S Z : Type 0} (plan : Outline) (flat : Z → Flat) (number : ℕ) (old new : ContextView S)
    (layer : LayerView Z) (taken : IsTaken number old layer new) where
  pub has_start : old.plan ≡ plan → (l : PlanLayer) →
      slice_get old.plan.layers number ≡ Some l →
      grounds.HasStart plan layer.number layer.start
  has_start is l e = subst (λ (o : Option ℕ). grounds.HasStart plan o layer.start)
      (sym taken.number_is) (subst (λ (p : Outline). IsSomeAnd (slice_get p.layers number)
      (λ (x : PlanLayer). layer.start ≡ x.start)) is
      (start_of (slice_get old.plan.layers number) l layer.start e taken.start_is))

  -- and is the plan's
  pub of_plan : old.plan ≡ plan → (l : PlanLayer) → slice_get old.plan.layers number ≡ Some l →
      IsKept layer (flat layer.frozen) → grounds.IsLayerOf plan flat layer
  of_plan is l e kept = record {
    plan_is = taken.plan_is ∙ is;
    start_is = has_start is l e;
    kept = kept;
  }
