-- Files by name, in a map and as contracts see it.
use Rattle.std.proofs.Common.{◌≡◌, ℕ, List, [], ◌∷◌, map, Option, Some, None, option_map}
use Rattle.std.proofs.Common.{option_copied, true, false, cond, String, Vec, Global, refl, ap}
use Rattle.std.proofs.Common.{string_bytes}
use Rattle.std.specs.Ordering.{nat_cmp}
use Rattle.std.specs.Cmp.Lexicographic.{slice_cmp}
use Rattle.std.specs.BTreeMap.{BTreeMap, get_by_text, is_at}
use Rattle.std.specs.Map.{lookup}
use Rattle.edge_files.specs.Named.{name_and_bytes, named_bytes, file_named}
use denote.Ref.{Bor}

-- the bytes in a vector
abbrev pub bytes_in : Vec ℕ Global → List ℕ
bytes_in file = file.items

-- a look-up by a name among entries
lookup_named : (name : List ℕ) (files : List (String Global × Vec ℕ Global))
    → lookup (is_at (slice_cmp nat_cmp name)) (map name_and_bytes files)
    ≡ option_map bytes_in (lookup (is_at (λ key. slice_cmp nat_cmp name (string_bytes key))) files)
lookup_named name [] = refl
lookup_named name (file ∷ files) =
    let named = lookup (is_at (slice_cmp nat_cmp name)) (map name_and_bytes files) in
    let found = lookup (is_at (λ key. slice_cmp nat_cmp name (string_bytes key))) files in
    elim (is_at (slice_cmp nat_cmp name) (string_bytes file.0)) as
    (λ b. cond b (Some file.1.items) named ≡ option_map bytes_in (cond b (Some file.1) found))
    [ true ↦ refl | false ↦ lookup_named name files ]

-- the file of a name has the bytes that the map has there
pub file_in_map : (files : BTreeMap (String Global) (Vec ℕ Global)) (name : List ℕ)
    → file_named (named_bytes files) name ≡ option_map bytes_in (get_by_text files name)
file_in_map files name = lookup_named name files.entries

-- a reference to a file has its bytes
pub bytes_behind : (found : Option (Bor (Vec ℕ Global))) (file : Option (Vec ℕ Global))
    → option_copied found ≡ file
    → option_map (λ bytes. bytes.now.items) found ≡ option_map bytes_in file
bytes_behind None file e = ap (option_map bytes_in) e
bytes_behind (Some x) file e = ap (option_map bytes_in) e
