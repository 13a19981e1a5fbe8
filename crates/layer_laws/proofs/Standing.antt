-- Which layers there are, and where machines stand.
use Rattle.std.proofs.Common.{◌≡◌, ◌≢◌, ◌↔◌, ◌⊎◌, inl, inr, ℕ, zero, suc, ◌<◌, List, [], ◌∷◌}
use Rattle.std.proofs.Common.{length, Option, None, Some, slice_get, IsSomeAnd, IfSome}
use Rattle.std.proofs.Common.{option_and_then, refl, sym, ◌∙◌, ap, subst, arith}
use Rattle.std.proofs.lemmas.Option.{none-some, same_Some}
use Rattle.image_model.specs.Layout.{Layout}
use Rattle.layer_laws.proofs.Determined.{layer_run_ends, one_place}
use Rattle.layer_laws.proofs.Validity.{at_some, give-valid, packets_of, place-valid}
use Rattle.layer_model.proofs.Places.{place_more, place_less}
use Rattle.layer_model.specs.Layers.{quiet, layer_limits, IsLayerRun, IsStep, Climbs, layers_to}
use Rattle.layer_model.specs.Layers.{IsPlace, IsLayer, IsNoLayer}
use Rattle.machine_model.proofs.Ends.{each_ends}
use Rattle.machine_model.specs.Loaded.{loaded}
use Rattle.machine_model.specs.Machine.{Machine}
use Rattle.machine_model.specs.Run.{End, give}
use Rattle.machine_model.specs.declared.stop.Stop.{Stop}
use Rattle.machine_model.specs.declared.stop.Stop.TheVariants.{Trigger, Budget, Exception, Rest}
use Rattle.machine_model.specs.declared.stop.Stop.TheVariants.{Halt}
use Rattle.plan_model.proofs.Stacking.{stand_lower}
use Rattle.plan_model.specs.Outline.{Outline, IsPlan}
use Rattle.plan_model.specs.Stacks.{StandLower, layer_below}
use Rattle.plan_model.specs.declared.layer.PlanLayer.{PlanLayer}

-- ---- images

some_of : {A : Type 0} (P : A → Type 0) (o : Option A) (x : A) → o ≡ Some x → P x → IsSomeAnd o P
some_of P None x e p = absurd (none-some x e)
some_of P (Some y) x e p = subst P (sym (same_Some y x e)) p

pub image_place : (plan : Outline) (start : ℕ) (m : Machine) → IsPlace plan start None m
    ↔ ((layout : Layout) × (slice_get plan.starts start ≡ Some layout) × (m ≡ loaded layout))
image_place plan start m = (
  λ stands. at_some (slice_get plan.starts start) stands (λ layout found is.
      (layout, found, sym is)),
  λ there. some_of (λ layout. loaded layout ≡ m) (slice_get plan.starts start) there.0 there.1
      (sym there.2),
)

there : (starts : List Layout) (start : ℕ) → start < length starts
    → (m : Machine) × IsSomeAnd (slice_get starts start) (λ layout. loaded layout ≡ m)
there [] start within = absurd (omega arith)
there (s ∷ starts) zero within = (loaded s, refl)
there (s ∷ starts) (suc n) within = there starts n (omega arith)

pub image_there : (plan : Outline) (start : ℕ) → start < length plan.starts
    → (m : Machine) × IsPlace plan start None m
image_there plan start within = there plan.starts start within

-- ---- layers

pub lower_of : (plan : Outline) → IsPlan plan → StandLower plan.layers
lower_of plan is = stand_lower plan.layers (length plan.starts) is.parts.layers

pub below_of : (plan : Outline) (k : ℕ) (layer : PlanLayer) → slice_get plan.layers k ≡ Some layer
    → layer_below plan.layers k ≡ layer.below
below_of plan k layer found =
    ap (λ o. option_and_then (λ (l : PlanLayer). l.below) o) found

-- what stands at a layer's place is what its step leads to from the place below
pub layer_place : (plan : Outline) (start k : ℕ) (layer : PlanLayer) (m : Machine) → IsPlan plan
    → slice_get plan.layers k ≡ Some layer → IsPlace plan start (Some k) m
    ↔ ((below : Machine) × IsPlace plan start layer.below below × IsStep plan k below m)
layer_place plan start k layer m is found = (
  λ stands. place_less plan start k layer.below m (lower_of plan is) (below_of plan k layer found)
      stands,
  λ there. place_more plan start k layer.below there.0 m (lower_of plan is)
      (below_of plan k layer found) there.1 there.2,
)

start_of : (plan : Outline) (k lower : ℕ) (layer under : PlanLayer) → IsPlan plan
    → slice_get plan.layers k ≡ Some layer → layer.below ≡ Some lower
    → slice_get plan.layers lower ≡ Some under → under.start ≡ layer.start
start_of plan k lower layer under is found stands there =
    let l = is.parts.layers k layer found in
    let b = subst (λ o. IfSome o (λ n. (n < k)
    × IsSomeAnd (slice_get plan.layers n) (λ (u : PlanLayer). u.start ≡ layer.start))) stands
    l.below in
    let u = subst (λ o. IsSomeAnd o (λ (u : PlanLayer). u.start ≡ layer.start)) there b.1 in u

-- the layer that a layer stands on is what stands at the place below it
pub layer_under : (plan : Outline) (k lower : ℕ) (layer : PlanLayer) (m : Machine) → IsPlan plan
    → slice_get plan.layers k ≡ Some layer → layer.below ≡ Some lower
    → IsLayer plan lower m ↔ IsPlace plan layer.start layer.below m
layer_under plan k lower layer m is found stands = (
  λ there.
      let same = start_of plan k lower layer there.layer is found stands there.layer_is in
      subst (λ place. IsPlace plan layer.start place m) (sym stands)
      (subst (λ s. IsPlace plan s (Some lower) m) same there.place),
  λ there. under_place plan k lower layer m is found stands there,
) where
  under_place : (plan : Outline) (k lower : ℕ) (layer : PlanLayer) (m : Machine) → IsPlan plan
      → slice_get plan.layers k ≡ Some layer → layer.below ≡ Some lower
      → IsPlace plan layer.start layer.below m → IsLayer plan lower m
  under_place plan k lower layer m is found stands there =
      let l = is.parts.layers k layer found in
      let b = subst (λ o. IfSome o (λ n. (n < k)
      × IsSomeAnd (slice_get plan.layers n) (λ (u : PlanLayer). u.start ≡ layer.start))) stands
      l.below in
      at_some (slice_get plan.layers lower) b.1 (λ under there_is same. record {
        layer = under;
        layer_is = there_is;
        place = subst (λ s. IsPlace plan s (Some lower) m) (sym same)
            (subst (λ place. IsPlace plan layer.start place m) stands there);
      })

-- ---- a layer, or a reason

pub layer_of : (plan : Outline) (k : ℕ) (layer : PlanLayer) (m : Machine)
    → slice_get plan.layers k ≡ Some layer → IsPlace plan layer.start (Some k) m → IsLayer plan k m
layer_of plan k layer m found stands =
    record { layer = layer; layer_is = found; place = stands }

abbrev LayerOrReason : Outline → ℕ → Type 0
LayerOrReason plan k =
    ((m : Machine) × IsLayer plan k m) ⊎ ((why : Stop) × IsNoLayer plan k why)

is_trigger : (stop : Stop) → (stop ≡ Trigger) ⊎ (stop ≢ Trigger)
is_trigger Trigger = inl refl
is_trigger Budget = inr (λ e. cc)
is_trigger (Exception cause pc tval) = inr (λ e. cc)
is_trigger Rest = inr (λ e. cc)
is_trigger (Halt code) = inr (λ e. cc)

by_stop : (plan : Outline) (k : ℕ) (layer : PlanLayer) (below : Machine) (end : End) → IsPlan plan
    → slice_get plan.layers k ≡ Some layer → IsPlace plan layer.start layer.below below
    → IsLayerRun plan layer below end → (end.stop ≡ Trigger) ⊎ (end.stop ≢ Trigger)
    → LayerOrReason plan k
by_stop plan k layer below end is found stands run (inl there) =
    let at_trigger = subst (λ stop. IsLayerRun plan layer below
    (record { stop = stop; number = end.number; machine = end.machine })) there run in
    let step : IsStep plan k below (quiet end.machine) = record {
      layer = layer;
      layer_is = found;
      counted = end.number;
      reached = end.machine;
      run = at_trigger;
      after_is = refl;
    } in
    let place = (layer_place plan layer.start k layer (quiet end.machine) is found).1
    (below, stands, step) in
    inl (quiet end.machine, layer_of plan k layer (quiet end.machine) found place)
by_stop plan k layer below end is found stands run (inr elsewhere) = inr (
  end.stop,
  record {
    layer = layer;
    layer_is = found;
    below = below;
    place = stands;
    counted = end.number;
    stopped = end.machine;
    run = run;
    elsewhere = elsewhere;
  },
)

pub layer_or_reason : (plan : Outline) (k : ℕ) (layer : PlanLayer) (below : Machine) → IsPlan plan
    → slice_get plan.layers k ≡ Some layer → IsPlace plan layer.start layer.below below
    → ((m : Machine) × IsLayer plan k m) ⊎ ((why : Stop) × IsNoLayer plan k why)
layer_or_reason plan k layer below is found stands =
    let b = place-valid plan layer.start layer.below below is stands in
    let v = give-valid below layer.packets b (packets_of plan k layer is found) in
    let ends = each_ends 0 (layer_limits plan layer) (give below layer.packets) (omega arith) v in
    by_stop plan k layer below ends.0 is found stands ends.1 (is_trigger ends.0.stop)

-- ---- not both

trigger_and_why : (plan : Outline) (layer other : PlanLayer) (below : Machine) (a b : End)
    → layer ≡ other → IsLayerRun plan layer below a → IsLayerRun plan other below b
    → a.stop ≡ b.stop
trigger_and_why plan layer other below a b same p q =
    ap (λ (end : End). end.stop) (layer_run_ends plan layer below a b p
    (subst (λ l. IsLayerRun plan l below b) (sym same) q))

pub not_both : (plan : Outline) (k : ℕ) (m : Machine) (why : Stop) → IsPlan plan
    → IsLayer plan k m → IsNoLayer plan k why → ⊥
not_both plan k m why is p q =
    let same = same_Some p.layer q.layer (sym p.layer_is ∙ q.layer_is) in
    let found = subst (λ (l : PlanLayer). IsPlace plan l.start (Some k) m) same p.place in
    let parts = (layer_place plan q.layer.start k q.layer m is q.layer_is).0 found in
    let below = one_place plan q.layer.start q.layer.below parts.0 q.below parts.1 q.place in
    let step = subst (λ b. IsStep plan k b m) below parts.2 in
    let layers = same_Some step.layer q.layer (sym step.layer_is ∙ q.layer_is) in
    q.elsewhere (sym (trigger_and_why plan step.layer q.layer q.below
    (record { stop = Trigger; number = step.counted; machine = step.reached })
    (record { stop = why; number = q.counted; machine = q.stopped }) layers step.run q.run))

-- ---- nothing is queued there or written

climb_quiet : (plan : Outline) (ks : List ℕ) (below after : Machine) → quiet below ≡ below
    → Climbs plan ks below after → quiet after ≡ after
climb_quiet plan [] below after h same = subst (λ m. quiet m ≡ m) same h
climb_quiet plan (k ∷ ks) below after h (mid, first, rest) =
    climb_quiet plan ks mid after
    (subst (λ m. quiet m ≡ m) (sym first.after_is) refl) rest

pub place_quiet : (plan : Outline) (start : ℕ) (place : Option ℕ) (m : Machine)
    → IsPlace plan start place m → quiet m ≡ m
place_quiet plan start place m stands =
    at_some (slice_get plan.starts start) stands (λ layout found climbed.
    climb_quiet plan (layers_to plan.layers place) (loaded layout) m refl climbed)
