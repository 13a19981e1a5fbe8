-- What the space means, by its pages, and whether it may run.
use Rattle.std.specs.Prelude.{Bool}
use Rattle.space_api.specs.Flat.{Flat}
use Rattle.plain_space.specs.Space.{flat_in}
use Rattle.plain_space.specs.declared.space.PlainSpace.{PlainSpace}

abbrev pub flat : PlainSpace → Flat
flat space = flat_in space.pages

abbrev pub finished : PlainSpace → Bool
finished space = space.finished
