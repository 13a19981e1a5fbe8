-- What is asked where a layer is kept.
use Rattle.std.specs.Prelude.{◌≡◌, ℕ, true, false, Option, None, Some}
use Rattle.book_model.specs.Shared.{Shared}
use Rattle.context_uc.specs.Views.{LayerView}
use Rattle.journal_model.specs.Legal.{may_build}
use Rattle.space_api.specs.Holding.{Pin}
use Rattle.space_api.specs.Stores.{Frozen}

-- The layer was captured of the context, and is the one that may stand above it.
pub record IsAbove {C Z H : Type 0} (told : Z → Frozen) (pin : Z → Option Pin) (c : ℕ)
    (layer : LayerView Z) (book : Shared C (LayerView Z) H) : Type 0 where
  pub number : ℕ
  pub number_is : layer.number ≡ Some number
  pub may : may_build book.sizes book.state c number ≡ true
  pub built : (told layer.frozen).image ≡ false
  pub loose : pin layer.frozen ≡ None
