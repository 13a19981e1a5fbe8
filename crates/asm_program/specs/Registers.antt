-- Registers that statements name.
use Rattle.std.specs.Prelude.{nat_lt, Bool, true, ◌&&◌}
use Rattle.asm_lines.specs.Statement.{Statement, Nothing, Label, Segment, Entry, Word, Byte, Zeros}
use Rattle.asm_lines.specs.Statement.{BranchTo, JumpTo}

-- the registers of a branch or a jump are below 32
abbrev pub has_registers : Statement → Bool
has_registers Nothing = true
has_registers (Label name) = true
has_registers (Segment at flags size) = true
has_registers (Entry name) = true
has_registers (Word w) = true
has_registers (Byte b) = true
has_registers (Zeros n) = true
has_registers (BranchTo op rs1 rs2 name) = nat_lt rs1 32 && nat_lt rs2 32
has_registers (JumpTo rd name) = nat_lt rd 32
