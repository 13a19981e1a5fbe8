use Rattle.std.proofs.Common.{◌≡◌, true, false, length, refl, rules, Err, ap, ◌∙◌, arith}
use Rattle.machine_model.specs.Machine.{range_passes}
use Rattle.space_api.specs.Flat.{is_writable, machine_of}
use Rattle.hyper_calls.proofs.Outcomes.{refused_read, wanted_read}
use Rattle.hyper_calls.proofs.Ranges.{write_done, write_refused}
use Rattle.hyper_calls.proofs.hypercall.read_packet.Goals as goal

pub returns-in-Ok-clause-ends : goal.returns-in-Ok-clause-ends
returns-in-Ok-clause-ends g c =
    let flat = g.S.Space.flat c.args.space.now in
    let passes : range_passes (is_writable flat) c.args.at (length c.next-packet.result.now)
    ≡ true =
    write_done g.S.Space.lacks_memory (is_writable flat) _ _ _ _ _ c.in-Ok.is
    c.write_from.ensures.ends in
    search rules

pub returns-in-Err-Fault-clause-ends : goal.returns-in-Err-Fault-clause-ends
returns-in-Err-Fault-clause-ends g c =
    let flat = g.S.Space.flat c.args.space.now in
    let passes : range_passes (is_writable flat) c.args.at (length c.next-packet.result.now)
    ≡ false =
    write_refused g.S.Space.lacks_memory (is_writable flat) _ _ _ _ _ _
    (c.in-Err-Fault.is ∙ ap Err c.in-Err-Fault.field-0-is) c.write_from.ensures.ends in
    search rules

pub returns-in-Err-Fault-clause-frames : goal.returns-in-Err-Fault-clause-frames
returns-in-Err-Fault-clause-frames g c =
    let flat = g.S.Space.flat c.args.space.now in
    let old = machine_of c.args.hart.now flat c.args.ports.now.traffic in
    let passes : range_passes (is_writable flat) c.args.at (length c.next-packet.result.now)
    ≡ false =
    write_refused g.S.Space.lacks_memory (is_writable flat) _ _ _ _ _ _
    (c.in-Err-Fault.is ∙ ap Err c.in-Err-Fault.field-0-is) c.write_from.ensures.ends in (
      λ e. cc,
      λ l. refused_read g.S.Space.takes_frames (g.S.Space.spares c.args.space.now) old c.args.at
          c.args.room old.queue c.next-packet.result.now _ c.next-packet.ensures.queue passes l,
    )

pub returns-in-Err-NeedFrames-clause-frames : goal.returns-in-Err-NeedFrames-clause-frames
returns-in-Err-NeedFrames-clause-frames g c =
    let flat = g.S.Space.flat c.args.space.now in
    let old = machine_of c.args.hart.now flat c.args.ports.now.traffic in
    let is = c.in-Err-NeedFrames.is ∙ ap Err c.in-Err-NeedFrames.field-0-is in
    let wants = c.write_from.ensures.need.0 is in (
      λ e. wanted_read g.S.Space.takes_frames (g.S.Space.spares c.args.space.now) old c.args.at
          c.args.room old.queue c.next-packet.result.now _ c.next-packet.ensures.queue
          (omega arith) wants.0 wants.1,
      λ l. refl,
    )
