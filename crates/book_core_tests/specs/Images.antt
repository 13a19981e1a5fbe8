-- How images are opened one after the other.
use Rattle.std.specs.Prelude.{◌≡◌, ℕ, ◌+◌, ◌*◌, ◌≤◌, List, length, Option, Some}
use Rattle.std.specs.List.{slice_get, sum_by}
use Rattle.space_api.specs.Holding.{Stocked, Pin, first_stake}
use Rattle.space_api.specs.Told.{KeptLayer}
use Rattle.book_model.specs.Kept.{IsImageOf, first_shelf}

-- a shelf from which so many images may be opened for a book: it has the whole stake, enough of it,
-- and notes nothing
pub record IsFresh (count : ℕ) (shelf : Stocked) : Type 0 where
  pub whole : shelf.stake ≡ shelf.whole
  pub enough : first_shelf + first_stake * count ≤ shelf.stake
  pub opened : shelf.notes.opened ≡ 0
  pub no_value : shelf.notes.values ≡ 0
  pub no_image : shelf.notes.images ≡ 0
  pub no_span : shelf.notes.spans ≡ 0

-- so many images were opened from the shelf, each with its first stake
pub record HasOpened (count : ℕ) (all : ℕ) (old new : Stocked) : Type 0 where
  pub stake : old.stake ≡ new.stake + first_stake * count
  pub all_is : all ≡ first_stake * count
  pub whole : new.whole ≡ old.whole
  pub opened : new.notes.opened ≡ old.notes.opened + count
  pub values : new.notes.values ≡ old.notes.values
  pub images : new.notes.images ≡ old.notes.images
  pub spans : new.notes.spans ≡ old.notes.spans

-- the sum of what these hold
abbrev pub stakes : {L : Type 0} → List L → (stake : L → ℕ) → ℕ
stakes images stake = sum_by stake images

-- the images of the first starts, in order
pub record AreImages {L : Type 0} (images : List L) (kept : L → KeptLayer) (pin : L → Option Pin)
    (count : ℕ) : Type 0 where
  pub count_is : length images ≡ count
  pub each : (start : ℕ) (image : L) → slice_get images start ≡ Some image →
      IsImageOf start (kept image) (pin image)
