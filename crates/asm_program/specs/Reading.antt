-- What is read of a text: all lines up to the first that is faulty whatever the addresses of
-- labels are.
use Rattle.std.specs.Prelude.{ℕ, ◌+◌, List, [], ◌∷◌, Option, Some, None, Ok, Err}
use Rattle.asm_words.specs.Text.{lines}
use Rattle.asm_lines.specs.declared.fault.AsmKind.{AsmKind}
use Rattle.asm_program.specs.Program.{Part, Entry, Program, no_program, parts_of, with_line}

-- a fault and its line, from 1 on
pub record LineFault : Type 0 where
  pub line : ℕ
  pub kind : AsmKind

-- the program before the faulty line, or all of it
pub record Reading : Type 0 where
  pub parts : List Part
  pub labels : List ℕ → Option ℕ
  pub entry : Option Entry
  pub fault : Option LineFault

abbrev pub read_up_to : Program → Option LineFault → Reading
read_up_to program fault = record {
  parts = parts_of program;
  labels = program.labels;
  entry = program.entry;
  fault = fault;
}

abbrev pub faulty : (line : ℕ) → AsmKind → Option LineFault
faulty line kind = Some (record { line = line; kind = kind })

abbrev pub read_from : Program → (line : ℕ) → List (List ℕ) → Reading
read_from program line [] = read_up_to program None
read_from program line (text ∷ texts) =
    elim (with_line program line text) [
      | Ok next ↦ read_from next (line + 1) texts
      | Err kind ↦ read_up_to program (faulty line kind)
    ]

abbrev pub reading : List ℕ → Reading
reading text = read_from no_program 1 (lines text)
