-- What holds of every state that a journal reaches.
use Rattle.std.specs.Prelude.{◌≡◌, ℕ, ◌≤◌, true, length, All, nat_eq}
use Rattle.std.specs.List.{IsDistinct}
use Rattle.journal_model.specs.Extents.{Extents, Stack}
use Rattle.journal_model.specs.State.{State}
use Rattle.journal_model.specs.Legal.{serves}

-- there is room for a layer, and no layer stands twice in a stack
pub record IsSized (sizes : Extents) : Type 0 where
  pub room : 1 ≤ sizes.layers
  pub distinct : All (λ (stack : Stack). IsDistinct nat_eq stack.layers) sizes.stacks

-- the idle contexts and the kept layers have their rooms, and none stands twice among them
pub record HasRooms (sizes : Extents) (s : State) : Type 0 where
  pub idle_distinct : IsDistinct nat_eq s.idle
  pub idle_room : length s.idle ≤ sizes.idle
  pub kept_distinct : IsDistinct nat_eq s.kept
  pub kept_room : length s.kept ≤ sizes.layers

-- a request is served by one context at most, and a context serves one request at most
pub record ServesOnce (s : State) : Type 0 where
  pub contexts : (c d i : ℕ) → serves s c i ≡ true → serves s d i ≡ true → c ≡ d
  pub requests : (c i j : ℕ) → serves s c i ≡ true → serves s c j ≡ true → i ≡ j
