use Rattle.elf64.proofs.Table.{never_memory}
use Rattle.elf64.proofs.elf_laws.memory_is_no_fault.Goals as goal

pub returns : goal.returns
returns c = never_memory
