-- Sizes that a book may have.
use Rattle.std.specs.Prelude.{◌≡◌, ℕ, ◌<◌, ◌≤◌, false, List, [], ◌∷◌, nat_eq}
use Rattle.std.specs.List.{AllByRecursion}
use Rattle.journal_model.specs.Extents.{Extents, Stack}
use Rattle.space_api.specs.Holding.{free_limit}
use Rattle.book_model.specs.Kept.{most_requests}

-- there is room for a layer, and frames and requests are few
pub record AreFew (sizes : Extents) : Type 0 where
  pub layers : 1 ≤ sizes.layers
  pub root : sizes.root ≤ 1
  pub requests : sizes.requests ≤ most_requests
  pub frames : sizes.frames ≤ free_limit

-- no number stands twice
abbrev pub AreApart : List ℕ → Type 0
AreApart [] = Unit {0}
AreApart (x ∷ xs) = AllByRecursion (λ y. nat_eq x y ≡ false) xs × AreApart xs

-- each one's start is one of so many images, and no layer stands twice in it
abbrev pub AreFit : (images : ℕ) → List Stack → Type 0
AreFit images [] = Unit {0}
AreFit images (stack ∷ stacks) =
    (stack.start < images) × AreApart stack.layers × AreFit images stacks
