use Rattle.std.proofs.Common.{◌∙◌}
use Rattle.output_buffer.proofs.Ways.{sends_as}
use Rattle.output_buffer.specs.Sent.{way}
use Rattle.batch_output.proofs.writing.push_line.Goals as goal

pub returns-clause-sent : goal.returns-clause-sent
returns-clause-sent g c =
    let K = g.K.Sink in
    let old = way K.contents K.faults c.args.sink.now c.args.buffer.now in
    let new = way K.contents K.faults c.push.new.sink c.push.new.buffer in
    sends_as _ _ old new (c.deref.ensures.value ∙ c.in-Ok.ensures.filled) c.push.ensures
