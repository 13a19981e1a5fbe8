-- What frozen memory means, by its pages.
use Rattle.space_api.specs.Flat.{Flat}
use Rattle.plain_space.specs.FrozenPages.{frozen_in}
use Rattle.plain_space.specs.declared.frozen.PlainFrozen.{PlainFrozen}

abbrev pub flat : PlainFrozen → Flat
flat memory = frozen_in memory.pages
