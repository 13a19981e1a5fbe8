-- How kinds of faults are printed.
use Rattle.std.specs.Prelude.{ℕ, List, codes}
use Rattle.asm_lines.specs.declared.fault.AsmKind.{AsmKind}
use Rattle.asm_lines.specs.declared.fault.AsmKind.TheVariants as kinds

-- the variant's name
abbrev pub kind_name : AsmKind → List ℕ
kind_name kinds.BadShape = codes "BadShape"
kind_name kinds.UnknownName = codes "UnknownName"
kind_name kinds.BadNumber = codes "BadNumber"
kind_name kinds.OutOfRange = codes "OutOfRange"
kind_name kinds.TwiceDefined = codes "TwiceDefined"
kind_name kinds.Undefined = codes "Undefined"
