-- What decodes a word reads it off its fields.
use Rattle.std.proofs.Common.{◌≡◌, ℕ, Option, Some, None, refl}
use Rattle.instruction_model.specs.InstructionWord.{Decodes, IsWordOf}
use Rattle.instruction_model.specs.declared.instruction.Inst.{Inst}

-- two that decode the same word are one, where the first is the word's only instruction
pub one_decoding : (w : ℕ) (r s : Option Inst) → Decodes w r
    → ((v : Inst) → IsWordOf w v → r ≡ Some v) → Decodes w s → r ≡ s
one_decoding w r (Some v) found only is = only v is
one_decoding w None None found only none = refl
one_decoding w (Some v) None found only none = absurd (none v found)
