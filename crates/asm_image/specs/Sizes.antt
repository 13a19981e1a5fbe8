-- How many bytes segments have, before they are made.
use Rattle.std.specs.Prelude.{ℕ, ◌+◌, ◌*◌, ◌-◌, nat_le, Bool, ◌&&◌, if◌then◌else◌, List, length}
use Rattle.std.specs.Prelude.{Option, Some, None}
use Rattle.std.specs.List.{sum_by}
use Rattle.image_model.specs.Valid.{most_segments, largest_file}
use Rattle.asm_program.specs.Program.{Piece, Part, byte_count}

abbrev pub piece_size : Piece → ℕ
piece_size p = byte_count p.says

abbrev pub part_size : Part → ℕ
part_size part = sum_by piece_size part.pieces

abbrev pub parts_size : List Part → ℕ
parts_size parts = sum_by part_size parts

-- what is left of room for so many bytes, or none where they don't fit
abbrev pub left : (room size : ℕ) → Option ℕ
left room size = if nat_le size room then Some (room - size) else None

-- there aren't too many segments, and their file isn't too long
abbrev pub fits_file : List Part → Bool
fits_file parts =
    nat_le (length parts) most_segments
    && nat_le (64 + 56 * length parts + parts_size parts) largest_file
