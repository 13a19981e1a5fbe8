-- What comes back of a book that is taken apart.
use Rattle.std.specs.Prelude.{◌≡◌, ℕ, ◌+◌, All, Option, None}
use Rattle.std.specs.List.{AllByRecursion, sum_by}
use Rattle.book_core.specs.declared.closing.Closed.{Closed}
use Rattle.book_model.specs.Shared.{Shared}
use Rattle.slab.specs.Slab.{entries}
use Rattle.slot_lists.specs.Lists.{Waiting}
use Rattle.space_api.specs.Holding.{Pin}

module _ {C L H : Type 0} where
  -- nothing of what a book held is pinned
  pub record IsLoose (context_pin : C → Option Pin) (layer_pin : L → Option Pin)
      (closed : Closed C L H) : Type 0 where
    pub contexts : AllByRecursion (λ (e : ℕ × C). context_pin e.1 ≡ None)
        (entries closed.contexts)
    pub layers : AllByRecursion (λ (e : ℕ × L). layer_pin e.1 ≡ None) (entries closed.layers)
    pub images : All (λ (l : L). layer_pin l ≡ None) closed.images.items

  -- the stakes of all contexts, layers and images that a book held
  abbrev pub stakes_of : (of_context : C → ℕ) → (of_layer : L → ℕ) → Closed C L H → ℕ
  stakes_of of_context of_layer closed =
      sum_by (λ (e : ℕ × C). of_context e.1) (entries closed.contexts)
      + sum_by (λ (e : ℕ × L). of_layer e.1) (entries closed.layers)
      + sum_by of_layer closed.images.items

  -- those of all that a book has
  abbrev pub stakes_in : (of_context : C → ℕ) → (of_layer : L → ℕ) → Shared C L H → ℕ
  stakes_in of_context of_layer book =
      sum_by (λ (e : ℕ × Waiting C). of_context e.1.context) book.idle
      + sum_by (λ (e : ℕ × L). of_layer e.1) book.kept
      + sum_by of_layer book.images
