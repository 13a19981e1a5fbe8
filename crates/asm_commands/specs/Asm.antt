-- `asm`: the source is assembler text, and the output its ELF file.
use Rattle.std.specs.Prelude.{◌≡◌, ℕ, ◌+◌, ◌==◌, if◌then◌else◌, List, length, take, Result, Ok, Err}
use Rattle.std.specs.List.{filter}
use Rattle.std.specs.Str.{is_utf8}
use Rattle.std.specs.Str.Lossy.{utf8_valid_len}
use Rattle.asm_lines.specs.declared.fault.AsmKind.TheVariants.{BadShape}
use Rattle.asm_commands.specs.declared.cause.AsmCause.{AsmCause}
use Rattle.asm_commands.specs.declared.cause.AsmCause.TheVariants.{Line}
use Rattle.asm_program.specs.Reading.{LineFault}
use Rattle.rv_asm.specs.Assembly.{assembly}

-- how many line feeds bytes have
abbrev pub line_feeds : List ℕ → ℕ
line_feeds bytes = length (filter (λ b. b == 10) bytes)

-- the line, from 1 on, of the first byte that isn't UTF-8
abbrev pub line_of_other_bytes : List ℕ → ℕ
line_of_other_bytes bytes = line_feeds (take (utf8_valid_len bytes) bytes) + 1

abbrev pub of_assembly : Result (List ℕ) LineFault → Result (List ℕ) AsmCause
of_assembly (Ok file) = Ok file
of_assembly (Err fault) = Err (Line fault.line fault.kind)

-- what comes of a text
abbrev pub TextAssembles : List ℕ → Result (List ℕ) AsmCause → Type 0
TextAssembles text made = of_assembly (assembly text) ≡ made

-- what comes of bytes: of text, or of other bytes
abbrev pub assembled : List ℕ → Result (List ℕ) AsmCause
assembled bytes =
    if is_utf8 bytes then of_assembly (assembly bytes)
    else Err (Line (line_of_other_bytes bytes) BadShape)

abbrev pub Assembles : List ℕ → Result (List ℕ) AsmCause → Type 0
Assembles bytes made = assembled bytes ≡ made
