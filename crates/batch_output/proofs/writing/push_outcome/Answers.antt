use Rattle.std.proofs.Common.{ap}
use Rattle.batch_model.specs.Text.{answers_text, events_text}
use Rattle.output_buffer.proofs.Ways.{both, sends_as}
use Rattle.output_buffer.specs.Sent.{way}
use Rattle.batch_output.proofs.writing.push_outcome.Goals as goal

pub returns : goal.returns
returns g c =
    let K = g.K.Sink in
    let old = way K.contents K.faults c.args.sink.now c.args.buffer.now in
    let one = way K.contents K.faults c.push_lines.new.sink c.push_lines.new.buffer in
    let two = way K.contents K.faults c.push_lines-2.new.sink c.push_lines-2.new.buffer in
    let new = way K.contents K.faults c.push_line.new.sink c.push_line.new.buffer in
    both _ _ old one new
    (sends_as _ _ old one (ap answers_text c.deref.ensures.value) c.push_lines.ensures.sent)
    (both _ _ one two new
    (sends_as _ _ one two (ap events_text c.deref-2.ensures.value) c.push_lines-2.ensures.sent)
    c.push_line.ensures.sent)
