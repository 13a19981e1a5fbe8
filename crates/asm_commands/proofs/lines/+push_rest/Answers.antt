use Rattle.std.proofs.Common.{arith}
use Rattle.asm_commands.proofs.Steps.{rest_split}
use Rattle.output_buffer.proofs.Ways.{both, sends_as}
use Rattle.output_buffer.specs.Sent.{way}
use Rattle.asm_commands.proofs.lines.+push_rest.Goals as goal

pub returns-in-len1-up : goal.returns-in-len1-up
returns-in-len1-up g less c =
    let K = g.K.Sink in
    let old = way K.contents K.faults c.args.sink.now c.args.buffer.now in
    let between = way K.contents K.faults c.push_byte.new.sink c.push_byte.new.buffer in
    let new = way K.contents K.faults c.push_rest.new.sink c.push_rest.new.buffer in
    let some = c.in-len1-up.len_at_least in
    sends_as _ _ old new (rest_split _ c.args.at c.args.bytes.now (omega (arith, some)))
    (both _ _ old between new c.push_byte.ensures c.push_rest.ensures)
