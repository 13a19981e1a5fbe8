use Rattle.std.proofs.Common.{◌++◌, sym, ap, refl}
use Rattle.output_buffer.proofs.Ways.{and_nothing, held_as, held_more}
use Rattle.output_buffer.specs.Sent.{way}
use Rattle.output_buffer.proofs.passing.send.Goals as goal

pub returns : goal.returns
returns g c =
    let K = g.K.Sink in
    let piece = c.args.piece.now in
    let old = way K.contents K.faults c.args.sink.now c.args.buffer.now in
    let between = way K.contents K.faults c.args.sink.now
    (record { bytes = piece; failed = c.has_failed.result }) in
    let new = way K.contents K.faults c.write_unless_failed-failed.new.sink c.empty.new.self in
    and_nothing piece old between new
    (held_more piece old between refl refl (sym (ap (λ l. l ++ piece) c.requires))
    c.has_failed.ensures)
    (held_as K.contents K.faults c.args.sink.now c.write_unless_failed-failed.new.sink _ _ _ _ _
    refl (sym c.empty.ensures) c.write_unless_failed-failed.ensures.same)
