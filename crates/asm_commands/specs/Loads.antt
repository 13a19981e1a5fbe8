-- The lines of a file's PT_LOADs, whose bytes are read in their place.
use Rattle.std.specs.Prelude.{◌≡◌, ℕ, ◌%◌, ◌==◌, Bool, true, ◌&&◌, if◌then◌else◌}
use Rattle.std.specs.Prelude.{List, [], take, drop}
use Rattle.asm_commands.specs.Listing.{bytes_lines}
use Rattle.elf64.specs.Laws.{IsSoundSegment}
use Rattle.elf64.specs.Segments.{has_memory, segment_of}
use Rattle.elf64.specs.declared.program_header.ProgramHeader.{ProgramHeader}

-- it is a segment, and may be executed
abbrev pub is_listed : ProgramHeader → Bool
is_listed h = has_memory h && h.p_flags % 2 == 1

-- the lines of its file bytes, where they are listed
abbrev pub load_lines : List ℕ → ProgramHeader → List ℕ
load_lines bytes h =
    if is_listed h then bytes_lines h.p_vaddr (take h.p_filesz (drop h.p_offset bytes)) else []

-- where it is a segment, it is a sound one
abbrev pub IsSoundLoad : List ℕ → ProgramHeader → Type 0
IsSoundLoad bytes h = has_memory h ≡ true → IsSoundSegment (segment_of bytes h)
