-- The line of each word says that word.
use Rattle.std.proofs.Common.{◌≡◌, ℕ, ◌^◌, ◌<◌, true, Option, Some, None, Ok}
use Rattle.instruction_model.specs.InstructionWord.{Decodes}
use Rattle.instruction_model.specs.declared.instruction.Inst.{Inst}
use Rattle.asm_lines.specs.Statement.{Word, statement}
use Rattle.asm_laws.proofs.Data.{data_read}
use Rattle.asm_laws.proofs.Printed.{instruction_read}
use Rattle.rv_asm.specs.Disassembly.{line_of}

pub word_read : (w : ℕ) (o : Option Inst) → w < 2 ^ 32 → Decodes w o → statement true (line_of o w) ≡ Ok (Word w)
word_read w (Some v) h is = instruction_read w v is
word_read w None h is = data_read w h
