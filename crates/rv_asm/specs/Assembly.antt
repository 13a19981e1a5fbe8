-- The ELF file of a text, or its first fault.
use Rattle.std.specs.Prelude.{ℕ, max, if◌then◌else◌, List, length, Option, Some, None}
use Rattle.std.specs.Prelude.{Result, Ok, Err}
use Rattle.image_model.specs.Valid.{is_valid}
use Rattle.image_model.specs.declared.image.Image.{Image}
use Rattle.elf64_write.specs.Written.{written}
use Rattle.asm_image.specs.ImageOf.{image_of}
use Rattle.asm_image.specs.Uses.{lines_fault}
use Rattle.asm_lines.specs.Statement.{or_else}
use Rattle.asm_words.specs.Text.{lines}
use Rattle.asm_lines.specs.declared.fault.AsmKind.TheVariants as kinds
use Rattle.asm_program.specs.Reading.{LineFault, Reading, reading}

-- the last line, or 1 in an empty text
abbrev pub last_line : List ℕ → ℕ
last_line text = max 1 (length (lines text))

-- the first fault: one of the lines, or an image that isn't valid, which is the last line's fault
abbrev pub first_fault : Reading → (last : ℕ) → Option LineFault
first_fault reading last =
    or_else (lines_fault reading)
    (if is_valid (image_of reading) then None
    else Some (record { line = last; kind = kinds.BadShape }))

abbrev pub file_unless : Option LineFault → Image → Result (List ℕ) LineFault
file_unless None image = Ok (written image)
file_unless (Some fault) image = Err fault

abbrev pub assembly : List ℕ → Result (List ℕ) LineFault
assembly text =
    file_unless (first_fault (reading text) (last_line text)) (image_of (reading text))
