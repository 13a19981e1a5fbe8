-- The fields of an ELF file, by the names of the System V ABI ("ELF Header", "Program Header"), and
-- the values that they must have. Numbers stand with their lowest byte first.
use Rattle.std.specs.Prelude.{ℕ, ◌+◌, ◌*◌, List, [], ◌∷◌, map, take, drop, slice_index}
use Rattle.std.specs.Int.{Width, w16, w32, w64, byte_len, from_le_bytes}
use Rattle.std.specs.List.{range_with_len}
use Rattle.elf64.specs.declared.program_header.ProgramHeader.{ProgramHeader}

-- the number of a field at an offset
abbrev pub number_at : Width → List ℕ → ℕ → ℕ
number_at w bytes at = from_le_bytes w (take (byte_len w) (drop at bytes))

-- ---- the file header

abbrev pub file_header_size : ℕ
file_header_size = 64

abbrev pub ei_class : List ℕ → ℕ
ei_class bytes = slice_index bytes 4

abbrev pub ei_data : List ℕ → ℕ
ei_data bytes = slice_index bytes 5

abbrev pub e_type : List ℕ → ℕ
e_type bytes = number_at w16 bytes 16

abbrev pub e_machine : List ℕ → ℕ
e_machine bytes = number_at w16 bytes 18

abbrev pub e_entry : List ℕ → ℕ
e_entry bytes = number_at w64 bytes 24

abbrev pub e_phoff : List ℕ → ℕ
e_phoff bytes = number_at w64 bytes 32

abbrev pub e_phentsize : List ℕ → ℕ
e_phentsize bytes = number_at w16 bytes 54

abbrev pub e_phnum : List ℕ → ℕ
e_phnum bytes = number_at w16 bytes 56

-- the first bytes of each ELF file
abbrev pub elfmag : List ℕ
elfmag = 0x7f ∷ 0x45 ∷ 0x4c ∷ 0x46 ∷ []

abbrev pub elfclass64 : ℕ
elfclass64 = 2

abbrev pub elfdata2lsb : ℕ
elfdata2lsb = 1

abbrev pub et_exec : ℕ
et_exec = 2

-- RISC-V ELF psABI, "File Header"
abbrev pub em_riscv : ℕ
em_riscv = 243

-- ---- the program headers

abbrev pub program_header_size : ℕ
program_header_size = 56

abbrev pub pt_load : ℕ
pt_load = 1

-- the program header that stands at an offset
abbrev pub program_header_at : List ℕ → ℕ → ProgramHeader
program_header_at bytes at = record {
  p_type = number_at w32 bytes at;
  p_flags = number_at w32 bytes (at + 4);
  p_offset = number_at w64 bytes (at + 8);
  p_vaddr = number_at w64 bytes (at + 16);
  p_filesz = number_at w64 bytes (at + 32);
  p_memsz = number_at w64 bytes (at + 40);
}

-- the program header of a number, from 0 on
abbrev pub program_header : List ℕ → ℕ → ProgramHeader
program_header bytes i = program_header_at bytes (e_phoff bytes + program_header_size * i)

abbrev pub program_headers : List ℕ → List ProgramHeader
program_headers bytes = map (program_header bytes) (range_with_len 0 (e_phnum bytes))
