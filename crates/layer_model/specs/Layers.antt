-- What a layer of a plan is: a machine that stands at its trigger, reached from the layer below.
use Rattle.std.specs.Prelude.{◌≡◌, ◌≢◌, ℕ, List, [], ◌∷◌, Option, None, Some, IsSomeAnd, slice_get}
use Rattle.machine_model.specs.Loaded.{loaded, no_page}
use Rattle.machine_model.specs.Machine.{Machine}
use Rattle.machine_model.specs.Run.{Limits, End, IsRun, give}
use Rattle.machine_model.specs.declared.stop.Stop.{Stop}
use Rattle.machine_model.specs.declared.stop.Stop.TheVariants.{Trigger}
use Rattle.plan_model.specs.Outline.{Outline}
use Rattle.plan_model.specs.Stacks.{stack}
use Rattle.plan_model.specs.declared.layer.PlanLayer.{PlanLayer}

-- the machine with no packet queued, and nothing written to net and console
abbrev pub settled : Machine → Machine
settled m = record m { queue = []; sent = []; console = [] }

-- and of which no page was written
abbrev pub quiet : Machine → Machine
quiet m = record m { written = no_page; queue = []; sent = []; console = [] }

-- ---- the run of a layer

-- it stops at the layer's trigger, or after as many instructions as a layer may take
abbrev pub layer_limits : Outline → PlanLayer → Limits
layer_limits plan layer = record { trigger = Some layer.trigger; budget = plan.numbers.prepare }

-- The run of a layer from the machine below ends so: it is given the layer's packets, and the
-- clock shows 0.
abbrev pub IsLayerRun : Outline → PlanLayer → (below : Machine) → End → Type 0
IsLayerRun plan layer below end =
    IsRun 0 (layer_limits plan layer) (give below layer.packets) end

-- the layer of the number leads from the machine below to that at its trigger
pub record IsStep (plan : Outline) (number : ℕ) (below after : Machine) : Type 0 where
  pub layer : PlanLayer
  pub layer_is : slice_get plan.layers number ≡ Some layer
  pub counted : ℕ
  pub reached : Machine
  pub run : IsLayerRun plan layer below
      (record { stop = Trigger; number = counted; machine = reached })
  pub after_is : after ≡ quiet reached

-- the layers of these numbers, from the lowest up, lead from the one machine to the other
abbrev pub Climbs : Outline → List ℕ → (below after : Machine) → Type 0
Climbs plan [] below after = below ≡ after
Climbs plan (number ∷ numbers) below after =
    (mid : Machine) × IsStep plan number below mid × Climbs plan numbers mid after

-- ---- places

-- the layers up to a place: a layer, or none at the image
abbrev pub layers_to : List PlanLayer → (place : Option ℕ) → List ℕ
layers_to layers None = []
layers_to layers (Some number) = stack layers number

-- The machine stands at the place over the image with this start: the image's machine, or what the
-- layers up to the place make of it.
abbrev pub IsPlace : Outline → (start : ℕ) → (place : Option ℕ) → Machine → Type 0
IsPlace plan start place m = IsSomeAnd (slice_get plan.starts start)
    (λ layout. Climbs plan (layers_to plan.layers place) (loaded layout) m)

-- the machine is the layer of the number
pub record IsLayer (plan : Outline) (number : ℕ) (m : Machine) : Type 0 where
  pub layer : PlanLayer
  pub layer_is : slice_get plan.layers number ≡ Some layer
  pub place : IsPlace plan layer.start (Some number) m

-- There is no layer of the number, as its run from the layer below stops elsewhere. Where there is
-- no layer below, there is no such run.
pub record IsNoLayer (plan : Outline) (number : ℕ) (why : Stop) : Type 0 where
  pub layer : PlanLayer
  pub layer_is : slice_get plan.layers number ≡ Some layer
  pub below : Machine
  pub place : IsPlace plan layer.start layer.below below
  pub counted : ℕ
  pub stopped : Machine
  pub run : IsLayerRun plan layer below
      (record { stop = why; number = counted; machine = stopped })
  pub elsewhere : why ≢ Trigger
