use Rattle.std.proofs.Common.{[], ap, refl}
use Rattle.output_buffer.proofs.Ways.{nothing_and, held_as, held_more}
use Rattle.output_buffer.specs.Sent.{way}
use Rattle.output_buffer.proofs.passing.push.Goals as goal

pub returns-then-hold-2 : goal.returns-then-hold-2
returns-then-hold-2 g c =
    let K = g.K.Sink in
    let piece = c.args.piece.now in
    let old = way K.contents K.faults c.args.sink.now c.args.buffer.now in
    let between = way K.contents K.faults c.empty.new.sink c.empty.new.buffer in
    let new = way K.contents K.faults c.empty.new.sink c.hold-2.new.self in
    let held = c.hold-2.ensures.held c.if-hold-2.true in
    nothing_and piece old between new
    (held_as K.contents K.faults c.args.sink.now c.empty.new.sink [] c.hold.new.self
    c.empty.new.buffer c.args.buffer.now c.empty.new.buffer
    (c.hold.ensures.full c.if-hold.false) refl c.empty.ensures.same)
    (held_more piece between new refl refl (ap (λ h. h.bytes) held) (ap (λ h. h.failed) held))

pub returns : goal.returns
returns g c =
    let K = g.K.Sink in
    let piece = c.args.piece.now in
    let old = way K.contents K.faults c.args.sink.now c.args.buffer.now in
    let between = way K.contents K.faults c.empty.new.sink c.empty.new.buffer in
    let new = way K.contents K.faults c.send.new.sink c.send.new.buffer in
    nothing_and piece old between new
    (held_as K.contents K.faults c.args.sink.now c.empty.new.sink [] c.hold.new.self
    c.empty.new.buffer c.args.buffer.now c.empty.new.buffer
    (c.hold.ensures.full c.if-hold.false) refl c.empty.ensures.same)
    (held_as K.contents K.faults c.empty.new.sink c.send.new.sink piece c.hold-2.new.self
    c.send.new.buffer c.empty.new.buffer c.send.new.buffer
    (c.hold-2.ensures.full c.if-hold-2.false) refl c.send.ensures)
