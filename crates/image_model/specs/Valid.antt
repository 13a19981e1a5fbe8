-- Which images are valid: the segments lie apart in the memory of programs, the entry is right,
-- and the ELF file of the image isn't too long.
use Rattle.std.specs.Prelude.{ℕ, ◌+◌, ◌*◌, ◌%◌, ◌==◌, nat_le, nat_lt}
use Rattle.std.specs.Prelude.{Bool, false, not, ◌&&◌, ◌||◌, List, [], ◌∷◌, length}
use Rattle.std.specs.List.{list_all, list_any, sum_by}
use Rattle.image_model.specs.Files.{file_limit}
use Rattle.image_model.specs.Pages.{page_of}
use Rattle.image_model.specs.StartOf.{has_flag, is_on_page, segments_permission}
use Rattle.image_model.specs.declared.image.Image.{Image}
use Rattle.image_model.specs.declared.image.Segment.{Segment}

-- ---- each segment

-- the address behind the memory
abbrev pub memory_end : Segment → ℕ
memory_end s = s.at + s.size

-- programs lie from the second page up to 2 ^ 38 less 2 ^ 30
abbrev pub lowest_address : ℕ
lowest_address = 0x1000

abbrev pub highest_address : ℕ
highest_address = 0x3fc0000000

-- it has memory, which is all in the memory of programs
abbrev pub has_right_memory : Segment → Bool
has_right_memory s =
    nat_lt 0 s.size && nat_le lowest_address s.at && nat_le (memory_end s) highest_address

-- no flags but 1 execute, 2 write, 4 read
abbrev pub has_right_flags : Segment → Bool
has_right_flags s = nat_le s.flags 7

-- its bytes fit in its memory
abbrev pub has_right_bytes : Segment → Bool
has_right_bytes s = nat_le (length s.bytes) s.size

abbrev pub is_right_segment : Segment → Bool
is_right_segment s = has_right_memory s && has_right_flags s && has_right_bytes s

-- ---- all segments

abbrev pub most_segments : ℕ
most_segments = 16

-- neither ends at or below the begin of the other
abbrev pub shares_address : Segment → Segment → Bool
shares_address s t = nat_lt s.at (memory_end t) && nat_lt t.at (memory_end s)

-- two of the list share an address
abbrev pub has_overlap : List Segment → Bool
has_overlap [] = false
has_overlap (s ∷ ss) = list_any (shares_address s) ss || has_overlap ss

-- ---- the entry

-- the segment has a byte on the page and may be executed
abbrev pub is_executable_on : (page : ℕ) → Segment → Bool
is_executable_on page s = is_on_page s.at s.size page && has_flag s.flags 1

-- the page may be executed
abbrev pub is_executable : List Segment → (page : ℕ) → Bool
is_executable segments page = (segments_permission segments page).executable

-- the entry is where an instruction may begin, on a page that may be executed
abbrev pub has_right_entry : Image → Bool
has_right_entry image = image.entry % 4 == 0 && is_executable image.segments (page_of image.entry)

-- ---- the ELF file

-- a file header, a program header for each segment, and the bytes of each
abbrev pub file_size : List Segment → ℕ
file_size segments = 64 + 56 * length segments + sum_by (λ s. length s.bytes) segments

abbrev pub largest_file : ℕ
largest_file = file_limit

-- ---- the whole

abbrev pub is_valid : Image → Bool
is_valid image =
    nat_le (length image.segments) most_segments
    && list_all is_right_segment image.segments
    && not (has_overlap image.segments)
    && has_right_entry image
    && nat_le (file_size image.segments) largest_file
