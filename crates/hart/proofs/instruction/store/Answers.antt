use Rattle.std.proofs.Common.{Err, ap, ◌∙◌}
use Rattle.machine_model.specs.Instruction.{store_page_fault}
use Rattle.machine_model.specs.Machine.{least_failing}
use Rattle.space_api.specs.Flat.{machine_of, is_writable}
use Rattle.hart.proofs.Steps.{store_retires, memory_passes}
use Rattle.hart.proofs.instruction.store.Goals as goal

pub returns-in-Err-NeedFrames-clause-does : goal.returns-in-Err-NeedFrames-clause-does
returns-in-Err-NeedFrames-clause-does g c = λ traffic.
    let old = machine_of c.args.hart.now (g.S.Space.flat c.args.space.now) traffic in
    let is = c.in-Err-NeedFrames.is ∙ ap Err c.in-Err-NeedFrames.field-0-is in
    store_retires old c.args.op c.args.at c.args.value _ c.store_size.ensures
    (c.store.ensures.need.0 is).0

pub returns-in-Err-Memory-clause-does : goal.returns-in-Err-Memory-clause-does
returns-in-Err-Memory-clause-does g c = λ traffic.
    let old = machine_of c.args.hart.now (g.S.Space.flat c.args.space.now) traffic in
    let is = c.in-Err-Memory.is ∙ ap Err c.in-Err-Memory.field-0-is in
    store_retires old c.args.op c.args.at c.args.value _ c.store_size.ensures
    (memory_passes g.S.Space.lacks_memory store_page_fault
    (least_failing (is_writable (g.S.Space.flat c.args.space.now)) c.args.at c.store_size.result)
    c.store.result is c.store.ensures.ends)
