use Rattle.std.proofs.Common.{arith}
use Rattle.output_buffer.proofs.Texts.{split}
use Rattle.output_buffer.proofs.Ways.{both, sends_as}
use Rattle.output_buffer.specs.Sent.{way}
use Rattle.output_buffer.proofs.piece.+push_pieces.Goals as goal

pub returns-in-len1-up : goal.returns-in-len1-up
returns-in-len1-up g less c =
    let K = g.K.Sink in
    let old = way K.contents K.faults c.args.sink.now c.args.buffer.now in
    let between = way K.contents K.faults c.push_piece.new.sink c.push_piece.new.buffer in
    let new = way K.contents K.faults c.push_pieces.new.sink c.push_pieces.new.buffer in
    let some = c.in-len1-up.len_at_least in
    sends_as _ _ old new (split _ c.args.pieces.now (omega (arith, some)))
    (both _ _ old between new c.push_piece.ensures c.push_pieces.ensures)
