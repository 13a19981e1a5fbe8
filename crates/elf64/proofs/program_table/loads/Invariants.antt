use Rattle.std.proofs.Common.{◌≡◌, ◌≤◌, List, ℕ, map, length}
use Rattle.std.specs.List.{filter, range_with_len}
use Rattle.elf64.specs.Fields.{program_header}
use Rattle.elf64.specs.Segments.{is_load}
use Rattle.elf64.specs.declared.program_header.ProgramHeader.{ProgramHeader}
use Rattle.elf64.proofs.program_table.loads.Given as goal

-- the PT_LOADs among the first headers are found, and few
pub record Finds (bytes : List ℕ) (found : List ProgramHeader) (i : ℕ) : Type 0 where
  pub all : found ≡ filter is_load (map (program_header bytes) (range_with_len 0 i))
  pub few : length found ≤ 16

abbrev pub invariant-loop-index : goal.invariant-loop-index
invariant-loop-index l = Finds l.bytes l.loads l.index
