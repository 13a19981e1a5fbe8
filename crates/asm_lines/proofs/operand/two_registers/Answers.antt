use Rattle.std.proofs.lemmas.Int.{to_z-of_z}
use Rattle.std.proofs.lemmas.Result.{err_from_is_err_and}
use Rattle.asm_lines.proofs.Faults.{third_fault}
use Rattle.asm_lines.proofs.operand.two_registers.Goals as goal

pub returns-in_err-z-clause-value : goal.returns-in_err-z-clause-value
returns-in_err-z-clause-value c =
    let low = c.ranges.low in
    let high = c.ranges.high in
    let r = c.from_residual-in_err-z in
    let p = err_from_is_err_and r.result r.ensures.1 in
    let third = simp to_z-of_z at c.in_err-z.ensures.value in
    rw (p.1, p.2) (third_fault c.args.low c.args.high c.args.text.now _ _ _ _ _ _ c.in-Some.ensures c.in_ok-a.ensures.value c.in_ok-b.ensures.value third)
