-- How faults are printed.
use Rattle.std.specs.Prelude.{ℕ, List, codes}
use Rattle.elf64.specs.declared.fault.ElfFault.{ElfFault}
use Rattle.elf64.specs.declared.fault.ElfFault.TheVariants as faults

-- the variant's name
abbrev pub fault_name : ElfFault → List ℕ
fault_name faults.Short = codes "Short"
fault_name faults.TooBig = codes "TooBig"
fault_name faults.Magic = codes "Magic"
fault_name faults.Class = codes "Class"
fault_name faults.Order = codes "Order"
fault_name faults.FileKind = codes "FileKind"
fault_name faults.Machine = codes "Machine"
fault_name faults.HeaderSize = codes "HeaderSize"
fault_name faults.ProgramHeader = codes "ProgramHeader"
fault_name faults.SegmentRange = codes "SegmentRange"
fault_name faults.Address = codes "Address"
fault_name faults.Overlap = codes "Overlap"
fault_name faults.Entry = codes "Entry"
fault_name faults.Memory = codes "Memory"
