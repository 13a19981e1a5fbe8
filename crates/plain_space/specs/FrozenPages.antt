-- What frozen pages mean.
use Rattle.space_api.specs.Flat.{Flat}
use Rattle.space_api.specs.Stores.{frozen}
use Rattle.plain_space.specs.Pages.{flat_of_pages, ArePagesOf}
use Rattle.plain_space.specs.declared.frozen_pages.FrozenPages.{FrozenPages}

-- the bytes of the pages, none of which counts as written
abbrev pub frozen_in : FrozenPages → Flat
frozen_in pages = frozen (flat_of_pages pages.regions.items pages.list.items)

-- its pages rise, and may be used as the regions say
pub record AreFrozen (pages : FrozenPages) : Type 0 where
  pub ordered : ArePagesOf pages.regions.items 0 pages.list.items
