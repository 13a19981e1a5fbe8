use Rattle.std.proofs.Common.{◌∙◌, rules}
use Rattle.std.specs.Int.{w128}
use Rattle.std.proofs.lemmas.Int.{to_z-of_z}
use Rattle.std.proofs.lemmas.Result.{err_from_is_err_and}
use Rattle.asm_lines.specs.Statement.{number_of, segment_at, and_then}
use Rattle.asm_lines.proofs.Far.{fault_read, second_fault_read, segment_read}
use Rattle.asm_lines.proofs.directive.segment_with.Goals as goal
use mir.Val.{SFits}

pub returns-in_err-address : goal.returns-in_err-address
returns-in_err-address c =
    let f = c.args.flags in
    let p = err_from_is_err_and c.from_residual.result c.from_residual.ensures.1 in
    let fault = fault_read (number_of c.args.at.now) (λ a. and_then (number_of c.args.size.now) (λ n. segment_at f a n)) _ c.in_err-address.ensures in
    rw (p.1, p.2) fault

pub returns-in_err-count : goal.returns-in_err-count
returns-in_err-count c =
    let r = c.from_residual-in_err-count in
    let p = err_from_is_err_and r.result r.ensures.1 in
    let fault = second_fault_read (number_of c.args.at.now) (number_of c.args.size.now) (segment_at c.args.flags) _ _ c.in_ok-address.ensures c.in_err-count.ensures in
    rw (p.1, p.2) fault

pub returns : goal.returns
returns c =
    let address : SFits w128 c.in_ok-address.address = search rules in
    let count : SFits w128 c.in_ok-count.count = search rules in
    let v = simp to_z-of_z at c.segment_at.ensures in
    v ∙ segment_read c.args.flags (number_of c.args.at.now) (number_of c.args.size.now) _ _ c.in_ok-address.ensures c.in_ok-count.ensures
