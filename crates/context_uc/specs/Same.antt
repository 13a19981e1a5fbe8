-- To tell the same is to do so in a chain.
use Rattle.std.specs.Prelude.{ℕ, refl}
use Rattle.std.proofs.Common.{◌∙◌, ap}
use Rattle.space_api.specs.Flat.{Flat}
use Rattle.space_api.specs.Stores.{Frozen}
use Rattle.context_uc.specs.Views.{LayerView, ContextView, TellsLayer, TellsContext}

pub layer_is_itself : {Z : Type 0} (memory : Z → Frozen) (a : LayerView Z) → TellsLayer memory a a
layer_is_itself memory a = record { plan = refl; kept = refl }

pub layers_join : {Z : Type 0} (memory : Z → Frozen) (a b c : LayerView Z)
    → TellsLayer memory a b → TellsLayer memory b c → TellsLayer memory a c
layers_join memory a b c h k = record { plan = h.plan ∙ k.plan; kept = h.kept ∙ k.kept }

pub context_is_itself : {S : Type 0} (flat : S → Flat) (spares : S → ℕ) (a : ContextView S)
    → TellsContext flat spares a a
context_is_itself flat spares a = record {
  plan = refl;
  parked = refl;
  rest = refl;
  flat_is = refl;
}

pub contexts_join : {S : Type 0} (flat : S → Flat) (spares : S → ℕ) (a b c : ContextView S)
    → TellsContext flat spares a b → TellsContext flat spares b c → TellsContext flat spares a c
contexts_join {S = S} flat spares a b c h k = record {
  plan = h.plan ∙ k.plan;
  parked = h.parked ∙ k.parked;
  rest = ap (λ (x : ContextView S). record x { space = c.space }) h.rest ∙ k.rest;
  flat_is = h.flat_is ∙ k.flat_is;
}
