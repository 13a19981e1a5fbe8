-- What `asm` and `dis` are refused for beside what all commands share.
use Rattle.std.specs.Prelude.{ℕ, List, ◌++◌, codes}
use Rattle.std.specs.Fmt.{decimal}
use Rattle.asm_lines.specs.KindName.{kind_name}
use Rattle.asm_lines.specs.declared.fault.AsmKind.{AsmKind}
use Rattle.command_parts.specs.ImageLine.{fault_line, fault_status}
use Rattle.command_parts.specs.declared.refusal.Refusal.{Refusal}
use Rattle.asm_commands.specs.declared.cause.AsmCause.{AsmCause}
use Rattle.asm_commands.specs.declared.cause.AsmCause.TheVariants.{Image, Line}

abbrev pub AsmRefusal : Type 0
AsmRefusal = Refusal AsmCause

abbrev pub asm_status : AsmCause → ℕ
asm_status (Image fault) = fault_status fault
asm_status (Line number kind) = 3

-- the line of a faulty line of text
abbrev pub text_line : (number : ℕ) → AsmKind → List ℕ
text_line number kind =
    codes "seuss: line " ++ (decimal number ++ (codes " " ++ (kind_name kind ++ codes "\n")))

abbrev pub asm_line : AsmCause → List ℕ
asm_line (Image fault) = fault_line fault
asm_line (Line number kind) = text_line number kind
