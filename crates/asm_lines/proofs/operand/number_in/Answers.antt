use Rattle.std.proofs.Common.{◌∙◌, rules}
use Rattle.std.specs.Int.{w128}
use Rattle.std.proofs.lemmas.Int.{to_z-of_z}
use Rattle.std.proofs.lemmas.Result.{err_from_is_err_and}
use Rattle.asm_lines.specs.Statement.{number_of, ranged}
use Rattle.asm_lines.proofs.Far.{fault_read, number_read}
use Rattle.asm_lines.proofs.operand.number_in.Goals as goal
use mir.Val.{SFits}

pub returns-in_err-z-clause-value : goal.returns-in_err-z-clause-value
returns-in_err-z-clause-value c =
    let p = err_from_is_err_and c.from_residual.result c.from_residual.ensures.1 in
    let f = fault_read (number_of c.args.word.now) (ranged c.args.low c.args.high) _ c.in_err-z.ensures in
    rw (p.1, p.2) f

pub returns-clause-value : goal.returns-clause-value
returns-clause-value c =
    let low = c.ranges.low in
    let high = c.ranges.high in
    let fits : SFits w128 c.in_ok-z.z = search rules in
    let v = simp to_z-of_z at c.ranged.ensures.value in
    v ∙ number_read c.args.low c.args.high (number_of c.args.word.now) c.in_ok-z.z c.requires c.in_ok-z.ensures
