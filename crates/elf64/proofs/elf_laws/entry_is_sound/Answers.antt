use Rattle.elf64.proofs.Images.{aligned_entry, executable_entry}
use Rattle.elf64.proofs.elf_laws.entry_is_sound.Goals as goal

pub returns-clause-aligned : goal.returns-clause-aligned
returns-clause-aligned c = aligned_entry

pub returns-clause-executable : goal.returns-clause-executable
returns-clause-executable c = executable_entry
