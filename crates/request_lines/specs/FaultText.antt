-- How the fault of a text of request lines is written.
use Rattle.std.specs.Prelude.{ℕ, List, ◌++◌, codes}
use Rattle.std.specs.Fmt.{decimal}
use Rattle.request_lines.specs.declared.fault.LineFault.{LineFault}
use Rattle.request_lines.specs.declared.fault.LineFault.TheVariants.{At, Memory}
use Rattle.request_lines.specs.declared.fault.LineKind.{LineKind}
use Rattle.request_lines.specs.declared.fault.LineKind.TheVariants as kinds

-- the variant's name
abbrev pub kind_name : LineKind → List ℕ
kind_name kinds.Many = codes "Many"
kind_name kinds.Shape = codes "Shape"
kind_name kinds.Name = codes "Name"
kind_name kinds.Hex = codes "Hex"
kind_name kinds.Long = codes "Long"

abbrev pub fault_text : LineFault → List ℕ
fault_text (At line kind) = codes "line " ++ (decimal line ++ (codes " " ++ kind_name kind))
fault_text Memory = codes "Memory"
