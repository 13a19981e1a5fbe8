-- What contracts see of files in memory.
use Rattle.std.specs.Prelude.{ℕ, List, Option, map, String, Vec, string_bytes}
use Rattle.std.specs.Ordering.{nat_cmp}
use Rattle.std.specs.Cmp.Lexicographic.{slice_cmp}
use Rattle.std.specs.Global.{Global}
use Rattle.std.specs.BTreeMap.{BTreeMap, is_at}
use Rattle.std.specs.Map.{lookup}
use Rattle.edge_streams.specs.Memory.{Plan}

-- files in memory: their names and bytes
pub record FilesState : Type 0 where
  pub files : List (List ℕ × List ℕ)
  pub plan : Plan

-- the name and the bytes of an entry of a map of files
abbrev pub name_and_bytes : String Global × Vec ℕ Global → List ℕ × List ℕ
name_and_bytes file = (string_bytes file.0, file.1.items)

-- the names and the bytes of a map of files
abbrev pub named_bytes : BTreeMap (String Global) (Vec ℕ Global) → List (List ℕ × List ℕ)
named_bytes files = map name_and_bytes files.entries

-- the bytes of the file of a name, where there is one
abbrev pub file_named : List (List ℕ × List ℕ) → List ℕ → Option (List ℕ)
file_named files name = lookup (is_at (slice_cmp nat_cmp name)) files
