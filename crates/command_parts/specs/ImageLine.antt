-- The status and the line of each image fault.
use Rattle.std.specs.Prelude.{ℕ, List, codes}
use Rattle.elf64.specs.declared.fault.ElfFault.{ElfFault}
use Rattle.elf64.specs.declared.fault.ElfFault.TheVariants as elf
use Rattle.elf64.specs.declared.fault.ImageFault.{ImageFault}

-- it names the fault
abbrev pub image_line : ElfFault → List ℕ
image_line elf.Short = codes "seuss: image Short\n"
image_line elf.TooBig = codes "seuss: image TooBig\n"
image_line elf.Magic = codes "seuss: image Magic\n"
image_line elf.Class = codes "seuss: image Class\n"
image_line elf.Order = codes "seuss: image Order\n"
image_line elf.FileKind = codes "seuss: image FileKind\n"
image_line elf.Machine = codes "seuss: image Machine\n"
image_line elf.HeaderSize = codes "seuss: image HeaderSize\n"
image_line elf.ProgramHeader = codes "seuss: image ProgramHeader\n"
image_line elf.SegmentRange = codes "seuss: image SegmentRange\n"
image_line elf.Address = codes "seuss: image Address\n"
image_line elf.Overlap = codes "seuss: image Overlap\n"
image_line elf.Entry = codes "seuss: image Entry\n"
image_line elf.Memory = codes "seuss: memory\n"

-- of a file that is refused
abbrev pub fault_status : ImageFault → ℕ
fault_status fault = 2

abbrev pub fault_line : ImageFault → List ℕ
fault_line fault = image_line fault.fault
