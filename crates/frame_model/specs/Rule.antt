-- The rule of shared frames, over the words of the frames and the views of all holders.
use Rattle.std.specs.Prelude.{◌≡◌, ℕ, ◌+◌, ◌<◌, ◌≤◌, ◌⊎◌, true}
use Rattle.std.specs.Prelude.{List, [], ◌∷◌, length}
use mathlib.Core.Option.{some}
use lib.ListN.{get_elem?}
use Rattle.frame_model.specs.declared.view.View.{View}
use Rattle.frame_model.specs.Words.{Frames, kind_number, kind_at, count_at, IsMeta, target}
use Rattle.frame_model.specs.Words.{IsEntryAt, names, links}
use Rattle.frame_model.specs.Views.{Has, times, kind_of, words_of, word_of, reach, IsStaked}
use Rattle.frame_model.specs.Views.{whole_stake}

-- the holder of this number has the view v
abbrev pub At : List View → ℕ → View → Type 0
At views id v = get_elem? views id ≡ some v

-- no view but that of this number reaches f
abbrev pub NoOtherReaches : List View → ℕ → ℕ → Type 0
NoOtherReaches views id f =
    (other : ℕ) (w : View) → At views other w → (id ≡ other → ⊥) → Has f (reach w) → ⊥

-- a number of each view, added up
abbrev pub total : (View → ℕ) → List View → ℕ
total h [] = 0
total h (v ∷ vs) = h v + total h vs

-- what a view says of each frame of its reach is what the words hold
pub record Agrees (n : ℕ) (m : Frames) (v : View) : Type 0 where
  pub frames : 0 < v.stake → v.frames ≡ n
  pub inside : (f : ℕ) → Has f (reach v) → f < n
  pub whole : (f : ℕ) → Has f (reach v) → length (words_of v f) ≡ 512
  pub kind : (f : ℕ) → Has f (reach v) → kind_at m f ≡ kind_number (kind_of v f)
  pub word : (f i : ℕ) → Has f (reach v) → i < 512 → m.word f i ≡ word_of v f i

-- of a table of v's own, an entry names f
pub record IsNamedByOwn (m : Frames) (v : View) (f : ℕ) : Type 0 where
  pub table : ℕ
  pub index : ℕ
  pub owned : Has table v.owned
  pub inside : index < 512
  pub named : names m f table index ≡ true

-- a frame that v owns, of another count than 0: its count is 1, by a reference of v or an entry of
-- a table that v owns
pub record IsHeldOnce (m : Frames) (v : View) (f : ℕ) : Type 0 where
  pub once : count_at m f ≡ 1
  pub by : Has f v.references ⊎ IsNamedByOwn m v f

-- who owns a frame, and that no list of owned frames has one twice
pub record Ownership (n : ℕ) (m : Frames) (views : List View) : Type 0 where
  -- a frame of count 0 has an owner
  pub loose : (f : ℕ) → f < n → count_at m f ≡ 0
      → (id : ℕ) × (v : View) × At views id v × Has f v.owned
  pub held : (id : ℕ) (v : View) → At views id v → (f : ℕ) → Has f v.owned
      → (count_at m f ≡ 0 → ⊥) → IsHeldOnce m v f
  pub once : (id : ℕ) (v : View) → At views id v → (f : ℕ) → times f v.owned ≤ 1

-- the word i of the table g is an entry of its kind, which names a frame of the kind below
pub record Descends (n : ℕ) (m : Frames) (g i : ℕ) : Type 0 where
  pub form : IsEntryAt (kind_at m g) (m.word g i)
  pub inside : target (m.word g i) < n
  pub below : kind_at m (target (m.word g i)) + 1 ≡ kind_at m g

-- the stakes of all views
pub record Stakes (views : List View) : Type 0 where
  pub each : (id : ℕ) (v : View) → At views id v → IsStaked v
  pub whole : total (λ v. v.stake) views ≡ whole_stake

-- a table has at most 2^17 frames
abbrev pub most_frames : ℕ
most_frames = 131072

pub record FrameRule (n : ℕ) (m : Frames) (views : List View) : Type 0 where
  pub limit : n ≤ most_frames
  -- the kind and the words of each frame that a view reaches are those that it says
  pub agrees : (id : ℕ) (v : View) → At views id v → Agrees n m v
  -- a frame that one view owns is in no other view's reach
  pub apart : (id other : ℕ) (v w : View) → At views id v → At views other w → (id ≡ other → ⊥)
      → (f : ℕ) → Has f v.owned → Has f (reach w) → ⊥
  -- the count of a frame is the number of its links and of all references to it
  pub counted : (f : ℕ) → f < n
      → count_at m f ≡ length (links n m f) + total (λ v. times f v.references) views
  -- a frame of count 0 is owned, and an owned frame of another count is so once
  pub owned : Ownership n m views
  -- an entry of a root names a mid table, of a mid table a leaf table, of a leaf table data
  pub descends : (g i : ℕ) → g < n → i < 512 → 0 < kind_at m g → (m.word g i ≡ 0 → ⊥)
      → Descends n m g i
  -- a meta word has one of the four kinds, and bits 7 to 3 at 0
  pub kinds : (f : ℕ) → f < n → IsMeta (m.meta f)
  -- a view without a stake has nothing, and all stakes are 2^40
  pub stakes : Stakes views
