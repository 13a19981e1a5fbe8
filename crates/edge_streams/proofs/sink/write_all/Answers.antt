-- The loop adds what the sink took to what went out before.
use Rattle.std.proofs.Common.{arith, length-drop}
use Rattle.std.proofs.lemmas.List.{take_rest}
use Rattle.edge_streams.proofs.Rows.{adds_more}
use Rattle.edge_streams.proofs.sink.write_all.Goals as goal

pub loop-written-preserved : goal.loop-written-preserved
loop-written-preserved g c =
    let bytes = c.args.bytes.now in
    let written = c.loop-written.written in
    let rest = take_rest bytes written in
    let within = rw (rest, length-drop written bytes) at c.in-Ok.ensures.within in
    let taken = rw rest at c.in-Ok.ensures.taken in
    let counted = c.in-Ok.ensures.counted in
    let before = g.K.Sink.contents c.args.sink.now in
    let between = g.K.Sink.contents c.loop-written.sink in
    let after = g.K.Sink.contents c.write.new.self in
    record {
      within = omega arith;
      added = adds_more before between after bytes written c.in-Ok.taken
          c.loop-written.invariant.added taken;
      counted = omega arith;
    }
