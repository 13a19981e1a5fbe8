use Rattle.elf64.proofs.Executable.{other_entry}
use Rattle.elf64.proofs.segments.has_wrong_entry.Goals as goal

pub returns-else-entry-ne0 : goal.returns-else-entry-ne0
returns-else-entry-ne0 c =
    other_entry c.args.bytes.now c.args.loads.now c.e_entry-entry.result c.is_executable_at.result
    c.requires.loads c.e_entry-entry.ensures c.if-entry-ne0.false c.is_executable_at.ensures
