-- How many instructions the layers that were built took.
use Rattle.std.specs.Prelude.{◌≡◌, ℕ, ◌+◌, List, [], ◌∷◌, Some, slice_get}
use Rattle.journal_model.specs.declared.event.Event.{Event}
use Rattle.journal_model.specs.declared.event.Event.TheVariants.{Start, Take, Deploy, Refill}
use Rattle.journal_model.specs.declared.event.Event.TheVariants.{Built, Keep, Dup, Drop, Evict}
use Rattle.journal_model.specs.declared.event.Event.TheVariants.{Park, End, Back, Refuse, Want}
use Rattle.journal_model.specs.declared.event.Event.TheVariants.{Answer}
use Rattle.layer_model.specs.Layers.{IsPlace, IsStep}
use Rattle.machine_model.specs.Machine.{Machine, written_count}
use Rattle.plan_model.specs.Outline.{Outline}
use Rattle.plan_model.specs.declared.layer.PlanLayer.{PlanLayer}

-- the run of the layer of the number wrote so many pages and counted so many instructions on its
-- way to the trigger
pub record IsTaking (plan : Outline) (number pages count : ℕ) : Type 0 where
  pub layer : PlanLayer
  pub layer_is : slice_get plan.layers number ≡ Some layer
  pub below : Machine
  pub place : IsPlace plan layer.start layer.below below
  pub after : Machine
  pub step : IsStep plan number below after
  pub pages_are : pages ≡ written_count step.reached
  pub count_is : count ≡ step.counted

-- a layer that was built and what comes later took so many instructions together
pub record TookWith (plan : Outline) (number pages : ℕ) (later : ℕ → Type 0) (total : ℕ)
    : Type 0 where
  pub count : ℕ
  pub rest : ℕ
  pub took : IsTaking plan number pages count
  pub others : later rest
  pub total_is : total ≡ count + rest

-- the runs of the layers that these events built counted so many instructions together
abbrev pub BuildsTook : Outline → List Event → (total : ℕ) → Type 0
BuildsTook plan [] total = total ≡ 0
BuildsTook plan (Start i f t ∷ es) total = BuildsTook plan es total
BuildsTook plan (Take c i ∷ es) total = BuildsTook plan es total
BuildsTook plan (Deploy c k i n ∷ es) total = BuildsTook plan es total
BuildsTook plan (Refill c h n ∷ es) total = BuildsTook plan es total
BuildsTook plan (Built c k d ∷ es) total = TookWith plan k d (BuildsTook plan es) total
BuildsTook plan (Keep k ∷ es) total = BuildsTook plan es total
BuildsTook plan (Dup k ∷ es) total = BuildsTook plan es total
BuildsTook plan (Drop k ∷ es) total = BuildsTook plan es total
BuildsTook plan (Evict c ∷ es) total = BuildsTook plan es total
BuildsTook plan (Park c ∷ es) total = BuildsTook plan es total
BuildsTook plan (End c ∷ es) total = BuildsTook plan es total
BuildsTook plan (Back n ∷ es) total = BuildsTook plan es total
BuildsTook plan (Refuse i ∷ es) total = BuildsTook plan es total
BuildsTook plan (Want i ∷ es) total = BuildsTook plan es total
BuildsTook plan (Answer i c u ∷ es) total = BuildsTook plan es total
