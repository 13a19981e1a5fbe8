-- What the book of a plan holds: contexts, layers and images of that plan.
use Rattle.std.specs.Prelude.{◌≡◌, ℕ, ◌<◌, true, Option, Some, IfSome, IsSomeAnd, length}
use Rattle.std.specs.Prelude.{slice_get}
use Rattle.context_runs.specs.OfLayers.{IsTop}
use Rattle.context_uc.specs.Views.{ContextView, LayerView, IsKept}
use Rattle.journal_model.specs.Extents.{Extents}
use Rattle.layer_model.specs.Replies.{IsFunction}
use Rattle.plan_model.specs.Outline.{Outline}
use Rattle.plan_model.specs.Stacks.{stack}
use Rattle.plan_model.specs.declared.function.PlanFunction.{PlanFunction}
use Rattle.plan_model.specs.declared.layer.PlanLayer.{PlanLayer}
use Rattle.space_api.specs.Flat.{Flat}

-- a context of the plan between its runs, which may serve once more at least
pub record IsUsable {S : Type 0} (plan : Outline) (c : ContextView S) : Type 0 where
  pub plan_is : c.plan ≡ plan
  pub still : c.still ≡ true
  pub uses_are : c.uses ≡ plan.numbers.uses
  pub usable : length c.served < c.uses

-- and it stands at its function's layer
pub record IsContextOf {S : Type 0} (plan : Outline) (c : ContextView S) : Type 0 where
  pub is_usable : IsUsable plan c
  pub at_top : IsTop plan c.function c.layer

-- a layer has the start of its number
abbrev pub HasStart : Outline → (number : Option ℕ) → (start : ℕ) → Type 0
HasStart plan number start = IfSome number
    (λ k. IsSomeAnd (slice_get plan.layers k) (λ (layer : PlanLayer). start ≡ layer.start))

-- a layer, or an image, of the plan
pub record IsLayerOf {Z : Type 0} (plan : Outline) (flat : Z → Flat) (l : LayerView Z)
    : Type 0 where
  pub plan_is : l.plan ≡ plan
  pub start_is : HasStart plan l.number l.start
  pub kept : IsKept l (flat l.frozen)

-- exactly the contexts and the layers of the plan belong to these grounds
pub record AreGrounds {S Z : Type 0} (plan : Outline) (flat : Z → Flat)
    (is_context : ContextView S → Type 0) (is_layer : LayerView Z → Type 0) : Type 0 where
  pub context : (c : ContextView S) → is_context c → IsContextOf plan c
  pub any_context : (c : ContextView S) → IsContextOf plan c → is_context c
  pub layer : (l : LayerView Z) → is_layer l → IsLayerOf plan flat l
  pub any_layer : (l : LayerView Z) → IsLayerOf plan flat l → is_layer l

-- the sizes are those of the plan, over copied pages
pub record IsSizedBy (plan : Outline) (sizes : Extents) : Type 0 where
  pub root : sizes.root ≡ 0
  pub idle : sizes.idle ≡ plan.numbers.idle
  pub layers : sizes.layers ≡ plan.numbers.room
  pub uses : sizes.uses ≡ plan.numbers.uses
  pub functions : length sizes.stacks ≡ length plan.functions
  pub stacks : (number : ℕ) (function : PlanFunction) (layer : PlanLayer) →
      IsFunction plan number function layer → slice_get sizes.stacks number
      ≡ Some (record { start = layer.start; layers = stack plan.layers function.layer })
