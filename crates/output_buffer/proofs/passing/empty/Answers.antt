use Rattle.std.proofs.Common.{[], sym}
use Rattle.output_buffer.proofs.Ways.{held_as, held_is}
use Rattle.output_buffer.proofs.passing.empty.Goals as goal

pub returns-clause-same : goal.returns-clause-same
returns-clause-same g c =
    let K = g.K.Sink in
    let buffer = c.args.buffer.now in
    held_as K.contents K.faults c.args.sink.now c.write_unless_failed-failed.new.sink [] _ _
    buffer c.empty.new.self
    (held_is buffer c.as_slice.result.now c.has_failed.result c.as_slice.ensures
    c.has_failed.ensures)
    (sym c.empty.ensures) c.write_unless_failed-failed.ensures.same
