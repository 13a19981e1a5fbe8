-- A line more of what is read.
use Rattle.std.proofs.Common.{◌≡◌, ℕ, ◌+◌, ◌<◌, ◌==◌, List, ◌∷◌, length, ap, sym, ◌∙◌}
use Rattle.std.proofs.Common.{Some, None, Result, Ok, Err}
use Rattle.std.specs.List.{before_first, after_first}
use Rattle.asm_words.specs.Text.{lines}
use Rattle.asm_lines.specs.declared.fault.AsmKind.{AsmKind}
use Rattle.asm_program.specs.Held.{Makes}
use Rattle.asm_program.specs.Program.{Program, with_line}
use Rattle.asm_program.specs.Reading.{Reading, read_from, read_up_to, faulty}
use Rattle.asm_program.proofs.Lines.{first_line}

-- what is read from a line on, by what the line makes of the program
abbrev read_on : Program → (line : ℕ) → List (List ℕ) → Result Program AsmKind → Reading
read_on program line texts made =
    elim made as (λ _. Reading) [
      | Ok next ↦ read_from next (line + 1) texts
      | Err kind ↦ read_up_to program (faulty line kind)
    ]

pub has_first : (rest first behind : List ℕ) → 0 < length rest
    → first ≡ before_first (λ b. b == 10) rest → behind ≡ after_first (λ b. b == 10) rest
    → lines rest ≡ first ∷ lines behind
has_first rest first behind some e f = rw (e, f) (first_line rest some)

-- the first line of what is left is no fault
pub goes_on : (program next : Program) (line : ℕ) (rest first behind : List ℕ)
    → lines rest ≡ first ∷ lines behind → Makes (with_line program line first) None program next
    → read_from program line (lines rest) ≡ read_from next (line + 1) (lines behind)
goes_on program next line rest first behind parted made =
    ap (read_from program line) parted ∙ ap (read_on program line (lines behind)) made

-- the first line of what is left is a fault
pub stops : (program same : Program) (line : ℕ) (kind : AsmKind) (rest first behind : List ℕ)
    → lines rest ≡ first ∷ lines behind
    → Makes (with_line program line first) (Some kind) program same
    → read_from program line (lines rest) ≡ read_up_to same (faulty line kind)
stops program same line kind rest first behind parted made =
    ap (read_from program line) parted ∙ ap (read_on program line (lines behind)) made.0
    ∙ ap (λ p. read_up_to p (faulty line kind)) (sym made.1)
