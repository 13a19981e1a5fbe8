-- The statement that is handed out, as the definition has it.
use Rattle.std.specs.Prelude.{◌<◌, Result, Ok, Err}
use Rattle.instruction_model.specs.InstructionWord.{IsRegister}
use Rattle.asm_lines.specs.Statement.{Statement, Nothing, Label, Segment, Entry, Word, Byte, Zeros}
use Rattle.asm_lines.specs.Statement.{BranchTo, JumpTo}
use Rattle.asm_lines.specs.declared.fault.AsmKind.{AsmKind}
use Rattle.asm_lines.specs.declared.line.Data.{Data as ReadData}
use Rattle.asm_lines.specs.declared.line.Data.TheVariants as bytes
use Rattle.asm_lines.specs.declared.line.Statement.{Statement as Read}
use Rattle.asm_lines.specs.declared.line.Statement.TheVariants as read

abbrev pub said_data : ReadData → Statement
said_data (bytes.Word w) = Word w
said_data (bytes.Byte b) = Byte b
said_data (bytes.Zeros n) = Zeros n
said_data (bytes.BranchTo op rs1 rs2 name) = BranchTo op rs1 rs2 name.now
said_data (bytes.JumpTo rd name) = JumpTo rd name.now

abbrev pub said : Read → Statement
said read.Nothing = Nothing
said (read.Label name) = Label name.now
said (read.Segment at flags size) = Segment at flags size
said (read.Entry name) = Entry name.now
said (read.Data d) = said_data d

abbrev pub told : Result Read AsmKind → Result Statement AsmKind
told (Ok s) = Ok (said s)
told (Err kind) = Err kind

-- What the types of the parts don't say: the flags have three bits, a segment isn't empty, and
-- registers are below 32.
abbrev pub IsInRange : Statement → Type 0
IsInRange Nothing = Unit {0}
IsInRange (Label name) = Unit {0}
IsInRange (Segment at flags size) = (flags < 8) × (0 < size)
IsInRange (Entry name) = Unit {0}
IsInRange (Word w) = Unit {0}
IsInRange (Byte b) = Unit {0}
IsInRange (Zeros n) = Unit {0}
IsInRange (BranchTo op rs1 rs2 name) = IsRegister rs1 × IsRegister rs2
IsInRange (JumpTo rd name) = IsRegister rd
