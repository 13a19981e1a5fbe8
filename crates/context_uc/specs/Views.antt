-- What contexts and layers are to contracts.
use Rattle.std.specs.Prelude.{◌≡◌, ℕ, ◌+◌, ◌≤◌, Bool, true, List, [], length, Option}
use Rattle.std.specs.Prelude.{None, Some, MatchOption}
use Rattle.machine_model.specs.Machine.{Machine}
use Rattle.machine_model.specs.declared.hart.Hart.{Hart}
use Rattle.layer_model.specs.Layers.{IsPlace}
use Rattle.layer_model.specs.Replies.{IsContext, IsFunction}
use Rattle.plan_model.specs.Outline.{Outline}
use Rattle.plan_model.specs.declared.function.PlanFunction.{PlanFunction}
use Rattle.plan_model.specs.declared.layer.PlanLayer.{PlanLayer}
use Rattle.space_api.specs.Flat.{Flat, Traffic, machine_of}
use Rattle.space_api.specs.Holding.{Holding, Pin, first_stake}
use Rattle.space_api.specs.Stores.{Frozen, frozen}
use Rattle.space_api.specs.Told.{ParkedContext, KeptLayer}
use Rattle.space_api.specs.declared.given.Given.{Given}

-- nothing queued, and nothing written
abbrev pub silent : Traffic
silent = record { queue = []; sent = []; console = [] }

-- ---- layers

-- the plan that it borrows, its number, if it is no image, its start, and the hart and the memory
-- that what is deployed from it begins with
pub record LayerView (Z : Type 0) : Type 0 where
  pub plan : Outline
  pub number : Option ℕ
  pub start : ℕ
  pub hart : Hart
  pub frozen : Z

-- with this memory it is the plan's layer, or the plan's image
abbrev pub IsKept : {Z : Type 0} → LayerView Z → Flat → Type 0
IsKept l flat = IsPlace l.plan l.start l.number (machine_of l.hart (frozen flat) silent)

-- what it tells, with this memory
abbrev pub kept_of : {Z : Type 0} → (Z → Frozen) → LayerView Z → KeptLayer
kept_of memory l = record {
  number = l.number;
  start = l.start;
  hart = l.hart;
  memory = memory l.frozen;
}

-- both have one plan, and tell the same
pub record TellsLayer {Z : Type 0} (memory : Z → Frozen) (a b : LayerView Z) : Type 0 where
  pub plan : a.plan ≡ b.plan
  pub kept : kept_of memory a ≡ kept_of memory b

-- ---- contexts

-- the plan that it borrows, its number, its function, the layer that it stands on, if any, what it
-- served, how many requests it may serve, how often it was stripped, whether it is between runs,
-- and its hart and its space
pub record ContextView (S : Type 0) : Type 0 where
  pub plan : Outline
  pub id : ℕ
  pub function : ℕ
  pub layer : Option ℕ
  pub served : List Given
  pub uses : ℕ
  pub stripped : ℕ
  pub still : Bool
  pub hart : Hart
  pub space : S

-- the context of a function at a place that served these requests is the machine
pub record IsModel (plan : Outline) (number : ℕ) (place : Option ℕ) (served : List Given)
    (m : Machine) : Type 0 where
  pub function : PlanFunction
  pub layer : PlanLayer
  pub function_is : IsFunction plan number function layer
  pub context_is : IsContext plan layer.start place served m

-- how many layers there may be up to a place
abbrev pub level_of : Option ℕ → ℕ
level_of None = 0
level_of (Some number) = number + 1

-- the stake that a pin moved
abbrev pub moved_of : Option Pin → ℕ
moved_of None = 0
moved_of (Some pin) = pin.moved

-- it serves at most as often as it may, and is captured and stripped at most 64 times
pub record HasFew (layer : Option ℕ) (served : List Given) (uses stripped : ℕ) : Type 0 where
  pub served_few : length served ≤ uses
  pub uses_few : uses ≤ 64
  pub level_few : level_of layer ≤ 64
  pub stripped_few : stripped ≤ length served

-- What its space keeps: where it isn't pinned it may run, and it has the stake that it began with,
-- but for what captures, strips and a pin moved.
pub record IsReady (takes : Bool) (layer : Option ℕ) (stripped : ℕ) (finished : Bool)
    (held : Holding) : Type 0 where
  pub ready : MatchOption held.pin (finished ≡ true) (λ pin. pin.ready ≡ true)
  pub stake : takes ≡ true →
      first_stake ≤ held.stake + moved_of held.pin + level_of layer + stripped

-- what is so of each context, with what its space tells
pub record IsSound {S : Type 0} (takes : Bool) (c : ContextView S) (flat : Flat)
    (finished : Bool) (held : Holding) : Type 0 where
  -- between runs it is the model's
  pub model : c.still ≡ true →
      IsModel c.plan c.function c.layer c.served (machine_of c.hart flat silent)
  pub few : HasFew c.layer c.served c.uses c.stripped
  pub ready : IsReady takes c.layer c.stripped finished held

-- what it tells, where its space has so many spares
abbrev pub parked_of : {S : Type 0} → (S → ℕ) → ContextView S → ParkedContext
parked_of spares c = record {
  id = c.id;
  function = c.function;
  layer = c.layer;
  served = c.served;
  spares = spares c.space;
}

-- both have one plan, tell the same, and are the same but for what they hold and whether they may
-- run
pub record TellsContext {S : Type 0} (flat : S → Flat) (spares : S → ℕ) (a b : ContextView S)
    : Type 0 where
  pub plan : a.plan ≡ b.plan
  pub parked : parked_of spares a ≡ parked_of spares b
  pub rest : record a { space = b.space } ≡ b
  pub flat_is : flat a.space ≡ flat b.space
