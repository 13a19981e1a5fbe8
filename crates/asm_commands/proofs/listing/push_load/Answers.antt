use Rattle.std.proofs.Common.{sym, ◌∙◌}
use Rattle.asm_commands.proofs.Loads.{listed}
use Rattle.output_buffer.proofs.Ways.{sends_as}
use Rattle.asm_commands.proofs.listing.push_load.Goals as goal

pub returns-then-is_listed : goal.returns-then-is_listed
returns-then-is_listed g c =
    sends_as _ _ _ _
    (listed c.args.file.now c.file_bytes.result.now c.args.load.now
    (sym c.is_listed.ensures ∙ c.if-is_listed.true) c.file_bytes.ensures)
    c.push_bytes.ensures
