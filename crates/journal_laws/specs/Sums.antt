-- Sums over lists by number, and over the contexts that aren't over.
use Rattle.std.specs.Prelude.{ℕ, ◌+◌, Bool, true, false, if◌then◌else◌, List, [], ◌∷◌}
use Rattle.journal_model.specs.State.{State}
use Rattle.journal_model.specs.declared.state.ContextState.{ContextState}
use Rattle.journal_model.specs.declared.state.Duty.{Duty}
use Rattle.journal_model.specs.declared.state.Duty.TheVariants.{Idle, Serves, Over}

-- the sum of what f says of each item and its number, where they are numbered from n
unfoldable pub sum_from : {A : Type 0} → (f : ℕ → A → ℕ) → (n : ℕ) → List A → ℕ
sum_from f n [] = 0
sum_from f n (x ∷ xs) = f n x + sum_from f (n + 1) xs

abbrev pub is_live_duty : Duty → Bool
is_live_duty Idle = true
is_live_duty (Serves i) = true
is_live_duty Over = false

-- what f says of a context that isn't over, and 0 of one that is
abbrev pub of_live : (ℕ → ContextState → ℕ) → ℕ → ContextState → ℕ
of_live f c x = if is_live_duty x.duty then f c x else 0

-- the sum of what f says of the contexts that aren't over
unfoldable pub live_sum : (ℕ → ContextState → ℕ) → State → ℕ
live_sum f s = sum_from (of_live f) 1 s.contexts
