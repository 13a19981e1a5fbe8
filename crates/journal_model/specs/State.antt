-- What a journal's state is, and how it is read.
use Rattle.std.specs.Prelude.{ℕ, ◌-◌, Bool, false, ◌==◌, if◌then◌else◌}
use Rattle.std.specs.Prelude.{List, [], ◌∷◌, length, Option, None, Some, nat_le}
use Rattle.std.specs.List.{slice_get, list_any}
use Rattle.journal_model.specs.Extents.{Extents, Stack}
use Rattle.journal_model.specs.declared.state.RequestState.{RequestState}
use Rattle.journal_model.specs.declared.state.ContextState.{ContextState}
use Rattle.journal_model.specs.declared.state.Owed.{Owed}

-- the idle contexts and the kept layers, most recent first; the requests that were started and the
-- contexts that were drawn, each by its number from 1; how many frames are free; and what must
-- stand directly next
pub record State : Type 0 where
  pub idle : List ℕ
  pub kept : List ℕ
  pub requests : List RequestState
  pub contexts : List ContextState
  pub free : ℕ
  pub owed : Owed

-- a journal's sizes, and the state to which its events lead
pub record Replay : Type 0 where
  pub sizes : Extents
  pub state : State

-- the n-th of a list, counted from 1
unfoldable pub numbered : {A : Type 0} → List A → ℕ → Option A
numbered xs n = if n == 0 then None else slice_get xs (n - 1)

-- the option is this number
abbrev pub is_just : Option ℕ → ℕ → Bool
is_just None n = false
is_just (Some m) n = m == n

-- the list has the number
unfoldable pub contains : ℕ → List ℕ → Bool
contains x xs = list_any (λ (y : ℕ). y == x) xs

-- the list without the number
unfoldable pub without : ℕ → List ℕ → List ℕ
without x [] = []
without x (y ∷ ys) = if y == x then ys else y ∷ without x ys

-- the last of a list, which is the least recent
abbrev pub last_of : List ℕ → Option ℕ
last_of xs = slice_get xs (length xs - 1)

-- there is no room for one more
abbrev pub is_full : (room : ℕ) → List ℕ → Bool
is_full room xs = nat_le room (length xs)

-- the layers of a function, from the lowest up; a number that is no function has none
unfoldable pub stack_of : Extents → (f : ℕ) → List ℕ
stack_of sizes f = layers_of (slice_get sizes.stacks f) where
  layers_of : Option Stack → List ℕ
  layers_of None = []
  layers_of (Some stack) = stack.layers

-- the layer directly above a place of a stack, which is a layer or the image below them all
unfoldable pub layer_above : (place : Option ℕ) → (stack : List ℕ) → Option ℕ
layer_above None stack = slice_get stack 0
layer_above (Some a) [] = None
layer_above (Some a) (k ∷ ks) = if k == a then slice_get ks 0 else layer_above (Some a) ks

abbrev pub highest_of : (kept : List ℕ) → (k : ℕ) → Option ℕ → Option ℕ
highest_of kept k None = if contains k kept then Some k else None
highest_of kept k (Some j) = Some j

-- the highest of the layers that is kept
unfoldable pub highest_kept : (kept stack : List ℕ) → Option ℕ
highest_kept kept [] = None
highest_kept kept (k ∷ ks) = highest_of kept k (highest_kept kept ks)
