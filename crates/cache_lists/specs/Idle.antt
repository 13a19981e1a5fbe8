-- What is asked of idle contexts.
use Rattle.std.specs.Prelude.{ℕ, ◌==◌, if◌then◌else◌, List, [], ◌∷◌, Option, None, Some}
use Rattle.cache_lists.specs.declared.idle_list.IdleContext.{IdleContext as Idle}

-- the first context of the function
abbrev pub first_of : ℕ → List (ℕ × Idle) → Option ℕ
first_of function [] = None
first_of function (e ∷ es) = if e.1.function == function then Some e.0 else first_of function es

-- a context's number with its slot
abbrev pub slot_of : ℕ × Idle → ℕ × ℕ
slot_of e = (e.0, e.1.slot)
