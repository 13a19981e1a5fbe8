-- The views of a test: a root, frame 0, whose 512 entries name the mid tables 1 to 512. Of each
-- mid table one entry, at a place of its own, names a leaf table, 513 to 1,024.
use Rattle.std.specs.Prelude.{◌≡◌, ℕ, ◌+◌, ◌*◌, ◌<◌, ◌⊎◌, [], length}
use Rattle.frame_model.specs.declared.kind.Kind.TheVariants.{Mid, Root}
use Rattle.frame_model.specs.declared.view.View.{View}
use Rattle.frame_model.specs.Views.{Has, kind_of, words_of, word_of, numbers_below, whole_stake}

-- an entry of a root or a mid table that names this table
abbrev pub pointer_to : ℕ → ℕ
pointer_to table = table * 1024 + 1

abbrev pub mid_at : ℕ → ℕ
mid_at j = j + 1

abbrev pub leaf_at : ℕ → ℕ
leaf_at j = j + 513

-- the root is whole, and its first i entries name the first mid tables
pub record HasEntries (i : ℕ) (v : View) : Type 0 where
  pub root : kind_of v 0 ≡ Root
  pub whole : length (words_of v 0) ≡ 512
  pub named : (j : ℕ) → j < i → word_of v 0 j ≡ pointer_to (mid_at j)

-- the word k of f is one of the first i entries of the root, or that of one of the first w mid
-- tables
abbrev pub IsWritten : ℕ → ℕ → ℕ → ℕ → Type 0
IsWritten i w f k = ((k < i) × (f ≡ 0)) ⊎ ((k < w) × (f ≡ mid_at k))

-- one holder owns all, and has put i mid tables below the root, and a leaf table below w of them
pub record IsPlaced (i w : ℕ) (v : View) : Type 0 where
  pub owned : v.owned ≡ numbers_below 1025
  pub references : v.references ≡ []
  pub stake : v.stake ≡ whole_stake
  pub whole : (f : ℕ) → f < 1025 → length (words_of v f) ≡ 512
  pub entries : HasEntries i v
  pub mids : (j : ℕ) → j < w → kind_of v (mid_at j) ≡ Mid
  pub leaves : (j : ℕ) → j < w → word_of v (mid_at j) j ≡ pointer_to (leaf_at j)
  pub rest : (f k : ℕ) → f < 1025 → k < 512 → (word_of v f k ≡ 0 → ⊥) → IsWritten i w f k

-- a holder that refers to the whole root, and owns nothing
pub record IsShared (v : View) : Type 0 where
  pub nothing : (f : ℕ) → Has f v.owned → ⊥
  pub refers : Has 0 v.references
  pub entries : HasEntries 512 v

-- so many references
abbrev pub HasReferences : ℕ → View → Type 0
HasReferences n v = length v.references ≡ n
