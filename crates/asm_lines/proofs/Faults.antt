-- The fault of the third operand, behind two registers.
use Rattle.std.proofs.Common.{◌≡◌, ℕ, List, Some, Ok, Err, ℤ, refl}
use Rattle.asm_words.specs.Text.{three_operands}
use Rattle.asm_lines.specs.Statement.{register_of, number_in, two_registers}
use Rattle.asm_lines.specs.declared.fault.AsmKind.{AsmKind}

pub third_fault : (low high : ℤ) (text v w x : List ℕ) (a b : ℕ) (kind : AsmKind) → Some (v, w, x) ≡ three_operands text → Ok a ≡ register_of v → Ok b ≡ register_of w → Err kind ≡ number_in low high x → Err kind ≡ two_registers low high text
third_fault low high text v w x a b kind words first second third =
    rw (← words, ← first, ← second, ← third) refl
