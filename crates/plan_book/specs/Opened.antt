-- What a plan's book is opened with.
use Rattle.std.specs.Prelude.{◌≡◌, ℕ, Bool, false, List, [], length, min, Option, Some}
use Rattle.std.specs.List.{slice_get}
use Rattle.book_model.specs.Kept.{IsImageOf}
use Rattle.book_model.specs.Shared.{Shared}
use Rattle.context_uc.specs.Views.{LayerView, kept_of}
use Rattle.deployer.specs.Grounds.{IsLayerOf}
use Rattle.journal_model.specs.Extents.{Extents}
use Rattle.journal_model.specs.Legal.{at_first}
use Rattle.plan_book.specs.OfPlan.{told}
use Rattle.plan_book.specs.Sized.{start_limit}
use Rattle.plan_model.specs.Outline.{Outline}
use Rattle.space_api.specs.Flat.{Flat}
use Rattle.space_api.specs.Holding.{Pin}

-- one image for each start that a layer can name
abbrev pub image_count : Outline → ℕ
image_count plan = min (length plan.starts) start_limit

-- With what is told of memory, its pin and its stake.
module _ {Z : Type 0} (flat : Z → Flat) (image : Z → Bool) (pin : Z → Option Pin)
    (stake : Z → ℕ) where
  -- it is the plan's image of that start, is pinned by nobody, and has no stake
  pub record IsPlanImage (plan : Outline) (start : ℕ) (l : LayerView Z) : Type 0 where
    pub of_plan : IsLayerOf plan flat l
    pub image_of : IsImageOf start (kept_of (told flat image) l) (pin l.frozen)
    pub no_stake : stake l.frozen ≡ 0

  -- so many images of the plan, in the order of the starts
  pub record AreImages (plan : Outline) (count : ℕ) (images : List (LayerView Z)) : Type 0 where
    pub count_is : length images ≡ count
    pub each : (start : ℕ) (l : LayerView Z) → slice_get images start ≡ Some l →
        IsPlanImage plan start l

-- each image is of these grounds, and that of its start
abbrev pub AreOfGrounds : {Z : Type 0} → (flat : Z → Flat) → (image : Z → Bool) →
    (pin : Z → Option Pin) → (is_layer : LayerView Z → Type 0) → List (LayerView Z) → Type 0
AreOfGrounds {Z} flat image pin is_layer images = (start : ℕ) (l : LayerView Z) →
    slice_get images start ≡ Some l →
    is_layer l × IsImageOf start (kept_of (told flat image) l) (pin l.frozen)

-- a book of no events, where nothing waits and no layer is kept
abbrev pub fresh_book : {C L H : Type 0} → Extents → (images : List L) → (shelf : H) →
    Shared C L H
fresh_book sizes images shelf = record {
  sizes = sizes;
  events = [];
  state = at_first sizes;
  started = [];
  idle = [];
  kept = [];
  images = images;
  shelf = shelf;
  stopped = false;
}
