-- That pages are sound is one fact, known in one way.
use Rattle.std.specs.Prelude.{ℕ, List, [], ◌∷◌, ◌+◌}
use denote.Struct.Props as logic
use Rattle.image_model.specs.declared.region.Region.{Region}
use Rattle.plain_space.specs.FrozenPages.{AreFrozen}
use Rattle.plain_space.specs.Pages.{ArePagesOf}
use Rattle.plain_space.specs.Space.{IsSound}
use Rattle.plain_space.specs.declared.frozen_pages.FrozenPages.{FrozenPages}
use Rattle.plain_space.specs.declared.page.Page.{Page}
use Rattle.plain_space.specs.declared.pages.Pages.{Pages}

pub ArePagesOf-prop : (regions : List Region) (lowest : ℕ) (pages : List Page)
    → IsProp (ArePagesOf regions lowest pages)
ArePagesOf-prop regions lowest [] = hlevel logic.props
ArePagesOf-prop regions lowest (p ∷ ps) =
    hlevel (logic.props, ArePagesOf-prop regions (p.number + 1) ps)

pub IsSound-prop : (pages : Pages) → IsProp (IsSound pages)
IsSound-prop pages = hlevel (logic.props, ArePagesOf-prop pages.regions.items 0 pages.list.items)

pub AreFrozen-prop : (pages : FrozenPages) → IsProp (AreFrozen pages)
AreFrozen-prop pages = hlevel (logic.props, ArePagesOf-prop pages.regions.items 0 pages.list.items)
