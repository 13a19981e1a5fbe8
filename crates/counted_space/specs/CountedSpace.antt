-- What the space means, and its spares.
use Rattle.std.specs.Prelude.{ℕ}
use Rattle.space_api.specs.Flat.{Flat}
use Rattle.counted_space.specs.Counted.{flat_in}
use Rattle.counted_space.specs.declared.space.CountedSpace.{CountedSpace}

abbrev pub flat : CountedSpace → Flat
flat space = flat_in space.counted

abbrev pub spares : CountedSpace → ℕ
spares space = space.counted.spares
