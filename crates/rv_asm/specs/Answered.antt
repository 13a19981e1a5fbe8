-- What the code answers for what a text means.
use Rattle.std.specs.Prelude.{◌≡◌, ℕ, List, Result, Ok, Err}
use Rattle.std.specs.Global.{Vec}
use Rattle.asm_program.specs.Reading.{LineFault}
use Rattle.rv_asm.specs.declared.fault.AsmFault.{AsmFault}
use Rattle.rv_asm.specs.declared.fault.AsmFault.TheVariants.{At, Memory}

-- the bytes or the fault of the text, unless memory ran out
abbrev pub Answers : Result (List ℕ) LineFault → Result (Vec ℕ) AsmFault → Type 0
Answers meant (Ok file) = meant ≡ Ok file.items
Answers meant (Err (At line kind)) = meant ≡ Err (record { line = line; kind = kind })
Answers meant (Err Memory) = Unit {0}
