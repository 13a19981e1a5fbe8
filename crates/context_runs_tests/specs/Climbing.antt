-- Contexts between two steps of a play.
use Rattle.std.specs.Prelude.{◌≡◌, ℕ, true, [], Option, None}
use Rattle.journal_model.specs.declared.answer.Why.{Why}
use Rattle.layer_model.specs.Layers.{IsNoLayer}
use Rattle.space_api.specs.Holding.{Pin}
use Rattle.context_uc.specs.Views.{ContextView}
use Rattle.context_runs.specs.OfLayers.{IsOnStack, IsTop, StandsAbove, stop_of_why}

-- it isn't pinned, and may serve as often as its plan says
pub record IsLoose {S : Type 0} (pin : S → Option Pin) (c : ContextView S) : Type 0 where
  pub loose : pin c.space ≡ None
  pub uses : c.uses ≡ c.plan.numbers.uses

-- it may climb on: it is between runs, on its function's stack, and has served nothing
pub record MayClimb {S : Type 0} (pin : S → Option Pin) (c : ContextView S) : Type 0 where
  pub is_loose : IsLoose pin c
  pub still : c.still ≡ true
  pub on_stack : IsOnStack c.plan c.function c.layer
  pub unused : c.served ≡ []

-- it stands at its function's layer
pub record IsUp {S : Type 0} (pin : S → Option Pin) (c : ContextView S) : Type 0 where
  pub is_loose : IsLoose pin c
  pub top : IsTop c.plan c.function c.layer

-- it stands directly below the layer of the number, which isn't there for this reason
pub record Misses {S : Type 0} (c : ContextView S) (number : ℕ) (why : Why) : Type 0 where
  pub above : StandsAbove c.plan c.function c.layer number
  pub none : IsNoLayer c.plan number (stop_of_why why)
