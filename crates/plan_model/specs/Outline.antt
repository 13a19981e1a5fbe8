-- What a plan is, and what holds of each plan.
use Rattle.std.specs.Prelude.{◌≡◌, ℕ, ◌-◌, ◌%◌, ◌^◌, ◌<◌, ◌≤◌, List, length, map}
use Rattle.std.specs.Prelude.{Some, IfSome, IsSomeAnd, slice_get, All}
use Rattle.image_model.specs.Layout.{Layout, IsLayout}
use Rattle.machine_model.specs.Valid.{HasBytes, IsPacket}
use Rattle.plan_model.specs.Stacks.{AreStacks}
use Rattle.plan_model.specs.declared.function.PlanFunction.{PlanFunction}
use Rattle.plan_model.specs.declared.layer.PlanLayer.{PlanLayer}
use Rattle.plan_model.specs.declared.numbers.Numbers.{Numbers}

pub record Outline : Type 0 where
  pub numbers : Numbers
  pub layers : List PlanLayer
  pub functions : List PlanFunction
  -- one for each layer that stands on an image, in the order of the layers
  pub starts : List Layout

abbrev pub names_of : List PlanFunction → List (List ℕ)
names_of functions = map (λ function. function.name) functions

-- ---- which outlines a `Plan` may have

-- from the one number to the other, with both
abbrev pub IsFrom : (lowest highest n : ℕ) → Type 0
IsFrom lowest highest n = (lowest ≤ n) × (n ≤ highest)

pub record AreNumbers (n : Numbers) : Type 0 where
  pub frames : IsFrom 1 65536 n.frames
  pub workers : IsFrom 1 16 n.workers
  pub idle : IsFrom 0 256 n.idle
  pub room : IsFrom 1 256 n.room
  pub uses : IsFrom 1 64 n.uses
  pub budget : IsFrom 1 1000000000 n.budget
  pub prepare : IsFrom 1 1000000000 n.prepare
  pub stack_bytes : IsFrom 4096 16777216 n.stack_bytes
  pub stack_pages : n.stack_bytes % 4096 ≡ 0
  pub clock : IsFrom 0 (2 ^ 63 - 1) n.clock
  pub serve : IsFrom 1 4096 n.serve

-- a layer that stands at its number among the layers
pub record IsLayer (layers : List PlanLayer) (starts number : ℕ) (l : PlanLayer) : Type 0 where
  pub below : IfSome l.below (λ lower. (lower < number)
      × IsSomeAnd (slice_get layers lower) (λ m. m.start ≡ l.start))
  pub start : l.start < starts
  pub trigger : IsFrom 4096 (2 ^ 38 - 4) l.trigger
  pub aligned : l.trigger % 4 ≡ 0
  pub packets : length l.packets ≤ 16

abbrev pub AreLayers : List PlanLayer → (starts : ℕ) → Type 0
AreLayers layers starts = (number : ℕ) (l : PlanLayer) → slice_get layers number ≡ Some l
    → IsLayer layers starts number l

abbrev pub AreFunctions : List PlanFunction → (layers : ℕ) → Type 0
AreFunctions functions layers = (number : ℕ) (f : PlanFunction)
    → slice_get functions number ≡ Some f → f.layer < layers

-- numbers, layers and functions fit together, with the starts that there are
pub record AreParts (o : Outline) : Type 0 where
  pub numbers : AreNumbers o.numbers
  pub layer_count : IsFrom 1 64 (length o.layers)
  pub layers : AreLayers o.layers (length o.starts)
  pub function_count : IsFrom 1 64 (length o.functions)
  pub functions : AreFunctions o.functions (length o.layers)

-- a machine can be loaded with it
pub record IsStart (l : Layout) : Type 0 where
  pub layout : IsLayout l
  pub entry : l.entry < 2 ^ 64
  pub bytes : HasBytes l

pub record IsPlan (o : Outline) : Type 0 where
  pub parts : AreParts o
  -- a machine can be loaded with each start, and given the packets of each layer
  pub starts : All IsStart o.starts
  pub packets : All (λ (l : PlanLayer). All IsPacket l.packets) o.layers

-- the names and stacks that are kept beside an outline are its own
pub record HoldsPlan (o : Outline) (kept_names kept_stacks : List (List ℕ)) : Type 0 where
  pub parts : AreParts o
  pub names : kept_names ≡ names_of o.functions
  pub stacks : AreStacks o.layers (length o.layers) kept_stacks
