-- Which layers a layer stands on.
use Rattle.std.specs.Prelude.{◌≡◌, ℕ, zero, suc, ◌+◌, ◌<◌, List, [], ◌∷◌, ◌++◌, length}
use Rattle.std.specs.Prelude.{Option, Some, None, option_map, option_and_then, slice_get}
use Rattle.plan_model.specs.declared.layer.PlanLayer.{PlanLayer}

-- the number of the layer that the layer of a number stands on
abbrev pub layer_below : List PlanLayer → ℕ → Option ℕ
layer_below layers number = option_and_then (λ layer. layer.below) (slice_get layers number)

-- a layer on top of a stack, or alone
abbrev pub on_top : Option (List ℕ) → ℕ → List ℕ
on_top None number = number ∷ []
on_top (Some lower) number = lower ++ number ∷ []

-- the topmost of the layers from the lowest up to the one of a number, so many at most
unfoldable pub top_layers : ℕ → List PlanLayer → ℕ → List ℕ
top_layers zero layers number = []
top_layers (suc count) layers number =
    on_top (option_map (top_layers count layers) (layer_below layers number)) number

-- The layers from the lowest up to the one of a number. As each stands on an earlier one, there
-- are at most as many as layers up to it.
abbrev pub stack : List PlanLayer → ℕ → List ℕ
stack layers number = top_layers (number + 1) layers number

-- each layer stands on none or an earlier one
abbrev pub StandLower : List PlanLayer → Type 0
StandLower layers =
    (number lower : ℕ) → layer_below layers number ≡ Some lower → lower < number

-- the stacks of so many layers, by their numbers
pub record AreStacks (layers : List PlanLayer) (count : ℕ) (stacks : List (List ℕ)) : Type 0 where
  pub all : length stacks ≡ count
  pub each : (number : ℕ) → number < count → slice_get stacks number ≡ Some (stack layers number)
