-- What a journal has of a context that is to be parked.
use Rattle.std.specs.Prelude.{◌≡◌, ℕ, Option, None, Some}
use Rattle.journal_model.specs.declared.state.ContextState.{ContextState}

-- it was drawn, and has this function and this layer
abbrev pub IsPlaced : Option ContextState → (function : ℕ) → (layer : Option ℕ) → Type 0
IsPlaced None function layer = ⊥
IsPlaced (Some context) function layer =
    (function ≡ context.function) × (layer ≡ context.layer)
