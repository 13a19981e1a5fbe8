-- What was read is the word's instruction, and the word of an instruction is read as it.
use Rattle.std.proofs.Common.{◌≡◌, ℕ, ◌<◌, ◌^◌, sym, ◌∙◌, arith}
use Rattle.std.specs.Prelude.{Option, Some, None}
use Rattle.std.proofs.lemmas.Option.{none-some}
use Rattle.instruction_model.specs.InstructionWord.{Decodes}
use Rattle.instruction_model.specs.declared.instruction.Inst.{Inst}
use Rattle.instruction_model.proofs.Completeness.{reading-word}
use Rattle.instruction_model.proofs.Soundness.{reading-sound}
use Rattle.instruction_model.specs.Reading.{reading}
use Rattle.rv_code.proofs.decoder.decode.Goals as goal

decodes-reading : (w : ℕ) (o : Option Inst) → w < 2 ^ 32 → o ≡ reading w → Decodes w o
decodes-reading w None fits e = λ v h. none-some v (e ∙ reading-word w v h)
decodes-reading w (Some v) fits e = reading-sound w v fits (sym e)

pub returns-clause-decodes : goal.returns-clause-decodes
returns-clause-decodes c = decodes-reading c.args.w c.by_opcode.result (omega arith) c.by_opcode.ensures

pub returns-clause-only : goal.returns-clause-only
returns-clause-only c = λ v h. c.by_opcode.ensures ∙ reading-word c.args.w v h
