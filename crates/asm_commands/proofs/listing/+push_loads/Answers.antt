use Rattle.std.proofs.Common.{arith}
use Rattle.asm_commands.proofs.Loads.{loads_split}
use Rattle.output_buffer.proofs.Ways.{both, sends_as}
use Rattle.output_buffer.specs.Sent.{way}
use Rattle.asm_commands.proofs.listing.+push_loads.Goals as goal

pub returns-in-len1-up : goal.returns-in-len1-up
returns-in-len1-up g less c =
    let K = g.K.Sink in
    let old = way K.contents K.faults c.args.sink.now c.args.buffer.now in
    let between = way K.contents K.faults c.push_load.new.sink c.push_load.new.buffer in
    let new = way K.contents K.faults c.push_loads.new.sink c.push_loads.new.buffer in
    let some = c.in-len1-up.len_at_least in
    sends_as _ _ old new
    (loads_split _ c.args.file.now c.args.loads.now (omega (arith, some)))
    (both _ _ old between new c.push_load.ensures c.push_loads.ensures)
