-- What a file loads: its PT_LOADs, what must hold of them, and the segments that they are (System V
-- ABI, "Program Header").
use Rattle.std.specs.Prelude.{ℕ, ◌+◌, ◌%◌, ◌==◌, nat_lt, Bool, false, ◌&&◌, ◌||◌}
use Rattle.std.specs.Prelude.{List, [], ◌∷◌, map, take, drop}
use Rattle.std.specs.List.{filter, list_any, sum_by}
use Rattle.image_model.specs.StartOf.{has_flag, is_on_page}
use Rattle.image_model.specs.declared.image.Segment.{Segment}
use Rattle.elf64.specs.Fields.{pt_load, program_headers}
use Rattle.elf64.specs.declared.program_header.ProgramHeader.{ProgramHeader}

abbrev pub is_load : ProgramHeader → Bool
is_load h = h.p_type == pt_load

-- the PT_LOADs, in file order
abbrev pub loads : List ℕ → List ProgramHeader
loads bytes = filter is_load (program_headers bytes)

-- ---- file bytes

-- the file bytes end behind the end of the file; without one they lie in each file
abbrev pub leaves_file : (file_length : ℕ) → ProgramHeader → Bool
leaves_file file_length h = nat_lt 0 h.p_filesz && nat_lt file_length (h.p_offset + h.p_filesz)

-- the file bytes don't lie in the file, or are more than the bytes of memory
abbrev pub has_wrong_range : (file_length : ℕ) → ProgramHeader → Bool
has_wrong_range file_length h = leaves_file file_length h || nat_lt h.p_memsz h.p_filesz

-- how many file bytes they have together
abbrev pub file_sizes : List ProgramHeader → ℕ
file_sizes hs = sum_by (λ h. h.p_filesz) hs

-- ---- memory

-- the flags of execute, write and read; others are masked off
abbrev pub masked_flags : ProgramHeader → ℕ
masked_flags h = h.p_flags % 8

abbrev pub has_memory : ProgramHeader → Bool
has_memory h = nat_lt 0 h.p_memsz

-- the address behind the memory
abbrev pub memory_end : ProgramHeader → ℕ
memory_end h = h.p_vaddr + h.p_memsz

-- programs lie from the second page up to 2 ^ 38 less 2 ^ 30
abbrev pub lowest_address : ℕ
lowest_address = 0x1000

abbrev pub highest_address : ℕ
highest_address = 0x3fc0000000

-- the memory begins too low or ends too high
abbrev pub has_wrong_address : ProgramHeader → Bool
has_wrong_address h =
    has_memory h && (nat_lt h.p_vaddr lowest_address || nat_lt highest_address (memory_end h))

-- both have memory, and each begins below the end of the other
abbrev pub shares_address : ProgramHeader → ProgramHeader → Bool
shares_address g h =
    (has_memory g && has_memory h)
    && (nat_lt g.p_vaddr (memory_end h) && nat_lt h.p_vaddr (memory_end g))

-- two of the list share an address
abbrev pub has_overlap : List ProgramHeader → Bool
has_overlap [] = false
has_overlap (h ∷ hs) = list_any (shares_address h) hs || has_overlap hs

-- the memory has a byte on the page and may be executed
abbrev pub is_executable_on : (page : ℕ) → ProgramHeader → Bool
is_executable_on page h = is_on_page h.p_vaddr h.p_memsz page && has_flag (masked_flags h) 1

-- ---- the segments

-- the segment of a PT_LOAD
abbrev pub segment_of : List ℕ → ProgramHeader → Segment
segment_of bytes h = record {
  at = h.p_vaddr;
  flags = masked_flags h;
  size = h.p_memsz;
  bytes = take h.p_filesz (drop h.p_offset bytes);
}

-- the segments of PT_LOADs; one without memory is no segment
abbrev pub segments_of : List ℕ → List ProgramHeader → List Segment
segments_of bytes hs = map (segment_of bytes) (filter has_memory hs)
