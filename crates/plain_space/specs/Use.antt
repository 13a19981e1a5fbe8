-- Ways to use bytes.
use Rattle.std.specs.Prelude.{Bool}
use Rattle.image_model.specs.Permission.{Permission}
use Rattle.plain_space.specs.declared.reads.Use.{Use}
use Rattle.plain_space.specs.declared.reads.Use.TheVariants.{Read, Write}

abbrev pub allows : Use → Permission → Bool
allows Read p = p.readable
allows Write p = p.writable
