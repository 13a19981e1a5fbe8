use Rattle.std.proofs.Common.{arith}
use Rattle.output_buffer.specs.Sent.{way}
use Rattle.batch_output.proofs.Sending.{line_more, all_lines}
use Rattle.batch_output.proofs.writing.push_lines.Goals as goal

pub items-preserved : goal.items-preserved
items-preserved g c =
    let K = g.K.Sink in
    let old = way K.contents K.faults c.args.sink.now c.args.buffer.now in
    let between = way K.contents K.faults c.items.sink c.items.buffer in
    let new = way K.contents K.faults c.push_line.new.sink c.push_line.new.buffer in
    record {
      sent = line_more g.L.Line.spelled c.args.items.now c.items.item-index c.item-item.result
          c.item-item.result old between new c.items-test.true c.item-item.is
          c.items.invariant.sent c.push_line.ensures.sent;
      grown = omega (arith, c.items.invariant.grown, c.push_line.ensures.capacity);
    }

pub returns-clause-sent : goal.returns-clause-sent
returns-clause-sent g c =
    let K = g.K.Sink in
    let old = way K.contents K.faults c.args.sink.now c.args.buffer.now in
    let new = way K.contents K.faults c.items.sink c.items.buffer in
    all_lines g.L.Line.spelled c.args.items.now c.items.item-index old new c.items-test.false
    c.items.invariant.sent
