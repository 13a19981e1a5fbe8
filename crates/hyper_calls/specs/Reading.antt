-- How bytes of a space are read into room.
use Rattle.std.specs.Prelude.{◌≡◌, Bool, true, false}
use Rattle.hyper_calls.specs.declared.reading.Reading.{Reading}
use Rattle.hyper_calls.specs.declared.reading.Reading.TheVariants.{Done, Refused}

-- they are read only where they may be, and refused only where they may not
abbrev pub Reads : Reading → (may : Bool) → (read kept : Type 0) → Type 0
Reads Done may read kept = (may ≡ true) × read
Reads Refused may read kept = (may ≡ false) × kept
