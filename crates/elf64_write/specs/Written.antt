-- How an image is written: the file header, a program header for each segment, and then the bytes
-- of each segment, one after the other (System V ABI, "ELF Header" and "Program Header").
use Rattle.std.specs.Prelude.{ℕ, ◌+◌, ◌*◌, List, [], ◌∷◌, ◌++◌, length}
use Rattle.std.specs.Int.{w16, w32, w64, to_le_bytes}
use Rattle.image_model.specs.declared.image.Image.{Image}
use Rattle.image_model.specs.declared.image.Segment.{Segment}
use Rattle.elf64.specs.Fields.{file_header_size, program_header_size, et_exec, em_riscv, pt_load}
use Rattle.elf64.specs.Fields.{elfclass64, elfdata2lsb}

-- the version of the format, in two places
abbrev pub ev_current : ℕ
ev_current = 1

-- `e_ident`: what each ELF file begins with, class, order and version, and nine zeros
abbrev pub e_ident : List ℕ
e_ident =
    0x7f ∷ 0x45 ∷ 0x4c ∷ 0x46 ∷ elfclass64 ∷ elfdata2lsb ∷ ev_current
    ∷ 0 ∷ 0 ∷ 0 ∷ 0 ∷ 0 ∷ 0 ∷ 0 ∷ 0 ∷ 0 ∷ []

-- The fields from `e_type` on. The program headers stand behind the file header, and there are no
-- sections.
unfoldable pub file_header : (entry count : ℕ) → List ℕ
file_header entry count =
    e_ident ++ (to_le_bytes w16 et_exec ++ (to_le_bytes w16 em_riscv
    ++ (to_le_bytes w32 ev_current ++ (to_le_bytes w64 entry
    ++ (to_le_bytes w64 file_header_size ++ (to_le_bytes w64 0 ++ (to_le_bytes w32 0
    ++ (to_le_bytes w16 file_header_size ++ (to_le_bytes w16 program_header_size
    ++ (to_le_bytes w16 count ++ (to_le_bytes w16 0 ++ (to_le_bytes w16 0
    ++ to_le_bytes w16 0))))))))))))

-- the program header of a segment whose bytes begin at an offset
unfoldable pub segment_header : (offset : ℕ) → Segment → List ℕ
segment_header offset s =
    to_le_bytes w32 pt_load ++ (to_le_bytes w32 s.flags ++ (to_le_bytes w64 offset
    ++ (to_le_bytes w64 s.at ++ (to_le_bytes w64 s.at ++ (to_le_bytes w64 (length s.bytes)
    ++ (to_le_bytes w64 s.size ++ to_le_bytes w64 1))))))

-- the program headers of segments whose bytes begin at an offset, one after the other
abbrev pub segment_headers : (offset : ℕ) → List Segment → List ℕ
segment_headers offset [] = []
segment_headers offset (s ∷ ss) =
    segment_header offset s ++ segment_headers (offset + length s.bytes) ss

abbrev pub segment_bytes : List Segment → List ℕ
segment_bytes [] = []
segment_bytes (s ∷ ss) = s.bytes ++ segment_bytes ss

-- where the bytes of the first segment begin
abbrev pub first_offset : List Segment → ℕ
first_offset ss = file_header_size + program_header_size * length ss

-- the file of an image
abbrev pub written : Image → List ℕ
written image =
    file_header image.entry (length image.segments)
    ++ (segment_headers (first_offset image.segments) image.segments
    ++ segment_bytes image.segments)
