use Rattle.std.proofs.Common.{[], true, refl}
use Rattle.output_buffer.proofs.Ways.{cut_off}
use Rattle.output_buffer.specs.Sent.{way}
use Rattle.output_buffer.proofs.passing.write_unless_failed.Goals as goal

pub returns-in-Err-clause-same : goal.returns-in-Err-clause-same
returns-in-Err-clause-same g c =
    let K = g.K.Sink in
    let cut = c.in-Err.ensures.cut in
    cut_off
    (way K.contents K.faults c.args.sink.now
    (record { bytes = c.args.bytes.now; failed = c.args.failed }))
    (way K.contents K.faults c.write_all.new.sink (record { bytes = []; failed = true }))
    c.in-Err.field-0.written c.if-failed.false refl cut.0 cut.1 c.in-Err.ensures.failed
    c.write_all.ensures.never_falls
