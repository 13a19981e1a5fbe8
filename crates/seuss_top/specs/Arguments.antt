-- The arguments of the program, after its name.
use Rattle.std.specs.Global.{Global}
use Rattle.std.specs.Prelude.{◌≢◌, ℕ, ◌<◌, List, String, map, length, slice_index, string_bytes}

abbrev pub texts : List (String Global) → List (List ℕ)
texts arguments = map string_bytes arguments

-- the name of a file: it isn't empty and doesn't begin with a dash
pub record IsFileName (name : List ℕ) : Type 0 where
  pub nonempty : 0 < length name
  pub plain : slice_index name 0 ≢ 45
