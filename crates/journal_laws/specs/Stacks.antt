-- Which layer of a stack is the highest that is kept, and stacks whose numbers rise.
use Rattle.std.specs.Prelude.{◌≡◌, ℕ, ◌<◌, true, false, List, [], ◌∷◌, Some}
use Rattle.std.specs.List.{slice_get}
use Rattle.journal_model.specs.State.{contains}

-- the layer stands in the stack and is kept, and no layer above it is
pub record IsHighest (kept stack : List ℕ) (k : ℕ) : Type 0 where
  pub at : ℕ
  pub place : slice_get stack at ≡ Some k
  pub kept_one : contains k kept ≡ true
  pub above : (j m : ℕ) → at < m → slice_get stack m ≡ Some j → contains j kept ≡ false

-- none of a stack is kept
abbrev pub IsNoneKept : (kept stack : List ℕ) → Type 0
IsNoneKept kept stack = (j m : ℕ) → slice_get stack m ≡ Some j → contains j kept ≡ false

-- each number is greater than the one before it, and the first than this one
abbrev pub RisesFrom : ℕ → List ℕ → Type 0
RisesFrom x [] = Unit {0}
RisesFrom x (y ∷ ys) = (x < y) × RisesFrom y ys

-- each number is greater than the one before it
abbrev pub IsRising : List ℕ → Type 0
IsRising [] = Unit {0}
IsRising (x ∷ xs) = RisesFrom x xs
