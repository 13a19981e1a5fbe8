use Rattle.space_api.specs.Flat.{machine_of}
use Rattle.hyper_calls.proofs.Outcomes.{of_wants, wants_of}
use Rattle.hyper_calls.proofs.hypercall.call.Goals as goal

pub returns-clause-frames : goal.returns-clause-frames
returns-clause-frames g c =
    let takes = g.S.Space.takes_frames in
    let spares = g.S.Space.spares c.args.space.now in
    let clock = c.args.ports.now.clock in
    let old = machine_of c.args.hart.now (g.S.Space.flat c.args.space.now)
    c.args.ports.now.traffic in (
      λ e. let l = c.call_by_number.ensures.frames.0 e in
          wants_of takes spares clock old l.0 l.1,
      λ w. c.call_by_number.ensures.frames.1 (of_wants takes spares clock old w),
    )
