use Rattle.space_api.specs.Flat.{machine_of}
use Rattle.machine_model.specs.Instruction.{word_at_pc}
use Rattle.hart.proofs.Steps.{may_fetch, step_does, wants_of, of_wants}
use Rattle.hart.proofs.instruction.step.Goals as goal

pub returns-clause-does : goal.returns-clause-does
returns-clause-does g c =
    λ traffic.
    let old = machine_of c.args.hart.now (g.S.Space.flat c.args.space.now) traffic in
    let may = may_fetch _ _ _ _ _ c.fetch.ensures.ends c.in-Ok.is in
    let here = rw c.in-Ok.ensures.value at c.in-Some.ensures.decodes in
    let does = rw c.in-Ok.ensures.flat at c.execute.ensures.does (word_at_pc old) traffic in
    step_does c.execute.result old _ c.in-Some.instruction may here does

pub returns-clause-frames : goal.returns-clause-frames
returns-clause-frames g c =
    λ traffic.
    let takes = g.S.Space.takes_frames in
    let spares = g.S.Space.spares c.args.space.now in
    let old = machine_of c.args.hart.now (g.S.Space.flat c.args.space.now) traffic in
    let v = c.in-Some.instruction in
    let may = may_fetch _ _ _ _ _ c.fetch.ensures.ends c.in-Ok.is in
    let here = rw c.in-Ok.ensures.value at c.in-Some.ensures.decodes in
    let lacks = rw (c.in-Ok.ensures.spares, c.in-Ok.ensures.flat)
    at c.execute.ensures.frames traffic in (
      λ e. wants_of takes spares old v may here (lacks.0 e),
      λ w. lacks.1 (of_wants takes spares old v may here w),
    )
