-- What the space means.
use Rattle.std.specs.Prelude.{◌≡◌, ℕ, true, is_some}
use Rattle.space_api.specs.Flat.{Flat}
use Rattle.plain_space.specs.Pages.{flat_of_pages, ArePagesOf, page_with}
use Rattle.plain_space.specs.declared.pages.Pages.{Pages}

abbrev pub flat_in : Pages → Flat
flat_in pages = flat_of_pages pages.regions.items pages.list.items

-- its pages rise, and may be used as the regions say
pub record IsSound (pages : Pages) : Type 0 where
  pub ordered : ArePagesOf pages.regions.items 0 pages.list.items

-- the same pages and regions; the guesses may differ
pub record IsSame (old new : Pages) : Type 0 where
  pub list : new.list ≡ old.list
  pub regions : new.regions ≡ old.regions

-- a page with the number is there
abbrev pub HasPage : Pages → ℕ → Type 0
HasPage pages n = is_some (page_with pages.list.items n) ≡ true
