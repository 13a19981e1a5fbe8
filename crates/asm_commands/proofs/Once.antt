-- One status comes of bytes.
use Rattle.std.proofs.Common.{◌≡◌, ℕ, List, Ok, Err, IsErr, refl, sym, ap, ◌∙◌}
use Rattle.asm_commands.specs.Asm.{Assembles}
use Rattle.asm_commands.specs.Causes.{asm_status}
use Rattle.asm_commands.specs.Dis.{Lists, RefusesFile}
use Rattle.asm_commands.specs.declared.cause.AsmCause.{AsmCause}
use Rattle.asm_commands.specs.declared.cause.AsmCause.TheVariants.{Image, Line}
use Rattle.asm_commands.proofs.Ends.{HasOneStatus, status_made}
use Rattle.elf64.specs.Elf.{elf}

refused_status : (bytes : List ℕ) (cause : AsmCause) → RefusesFile bytes cause
    → asm_status cause ≡ 2
refused_status bytes (Image fault) h = refl
refused_status bytes (Line number kind) h = absurd h

refused_file : (bytes : List ℕ) (cause : AsmCause) → RefusesFile bytes cause → IsErr (elf bytes)
refused_file bytes (Image fault) h = rw h refl
refused_file bytes (Line number kind) h = absurd h

-- an image isn't refused
not_both : (bytes : List ℕ) (made : List ℕ) (cause : AsmCause) → Lists bytes (Ok made)
    → RefusesFile bytes cause → ⊥
not_both bytes made cause is h =
    let fault = refused_file bytes cause h in let none = rw is.image_is at fault in cc

pub lists_once : HasOneStatus Lists
lists_once bytes (Ok a) (Ok b) is h = refl
lists_once bytes (Ok a) (Err cause) is h = absurd (not_both bytes a cause is h)
lists_once bytes (Err cause) (Ok b) is h = absurd (not_both bytes b cause h is)
lists_once bytes (Err cause) (Err other) is h =
    refused_status bytes cause is ∙ sym (refused_status bytes other h)

pub assembles_once : HasOneStatus Assembles
assembles_once bytes r s is other = ap status_made (sym is ∙ other)
