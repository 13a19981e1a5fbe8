use Rattle.std.proofs.Common.{sym, ◌∙◌}
use Rattle.output_buffer.proofs.Ways.{all_cut, all_written}
use Rattle.output_buffer.specs.Sent.{way}
use Rattle.output_buffer.proofs.passing.flush.Goals as goal

pub returns-then-has_failed-clause-cut : goal.returns-then-has_failed-clause-cut
returns-then-has_failed-clause-cut g c sent before faults is =
    let K = g.K.Sink in
    all_cut sent before faults (way K.contents K.faults c.empty.new.sink c.empty.new.buffer)
    (c.empty.ensures.same sent before faults is)
    (sym c.has_failed.ensures ∙ c.if-has_failed.true)

pub returns-else-has_failed-clause-written : goal.returns-else-has_failed-clause-written
returns-else-has_failed-clause-written g c sent before faults is =
    let K = g.K.Sink in
    all_written sent before faults (way K.contents K.faults c.empty.new.sink c.empty.new.buffer)
    (c.empty.ensures.same sent before faults is) c.empty.ensures.empty
    (sym c.has_failed.ensures ∙ c.if-has_failed.false)
