-- What waits or is kept, in the order of its use: lists of limited room, as those of `cache_lists`,
-- with the contexts and layers themselves in place of their slots.
use Rattle.std.specs.Prelude.{ℕ, ◌==◌, Bool, true, false, if◌then◌else◌, List, [], ◌∷◌, Option}
use Rattle.std.specs.Prelude.{None}
use Rattle.std.specs.Prelude.{Some, nat_eq}
use Rattle.std.specs.Map.{remove_entry}

-- a context that waits, with its function
pub record Waiting (C : Type 0) : Type 0 where
  pub function : ℕ
  pub context : C

abbrev pub waiting_of : {C : Type 0} → (function : ℕ) → C → Waiting C
waiting_of function context = record { function = function; context = context }

-- the number of the first context of the function
abbrev pub first_waiting : {C : Type 0} → (function : ℕ) → List (ℕ × Waiting C) → Option ℕ
first_waiting function [] = None
first_waiting function (e ∷ es) =
    if e.1.function == function then Some e.0 else first_waiting function es

-- a context's number with the context
abbrev pub context_of : {C : Type 0} → ℕ × Waiting C → ℕ × C
context_of e = (e.0, e.1.context)

-- the list with another value under a key, which stands where it stood
abbrev pub with_layer : {L : Type 0} → (k : ℕ) → L → List (ℕ × L) → List (ℕ × L)
with_layer k layer [] = []
with_layer k layer (e ∷ es) =
    if e.0 == k then (k, layer) ∷ es else e ∷ with_layer k layer es

-- the list with another value under a key, which goes to the front exactly where it was deployed
abbrev pub after_deploy : {L : Type 0} → (deployed : Bool) → (k : ℕ) → L → List (ℕ × L)
    → List (ℕ × L)
after_deploy true k layer es = (k, layer) ∷ remove_entry (nat_eq k) es
after_deploy false k layer es = with_layer k layer es
