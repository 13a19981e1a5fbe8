use Rattle.std.proofs.Common.{◌∙◌, Ok, ℤ, pos, negsuc, to_z, of_z, ap, rules}
use Rattle.std.specs.Int.{w128}
use Rattle.std.proofs.lemmas.Int.{to_z-of_z}
use Rattle.std.proofs.lemmas.Result.{err_from_is_err_and}
use Rattle.instruction_model.specs.Word.{modulo_two_to}
use Rattle.asm_lines.specs.Ranges.{IsWithin}
use Rattle.asm_lines.specs.Statement.{Statement, Byte, of_number}
use Rattle.asm_lines.proofs.directive.byte.Goals as goal
use mir.Val.{SFits}

abbrev byte_said : ℤ → Statement
byte_said z = Byte (modulo_two_to 8 z)

of_byte : (z : ℤ) → SFits w128 z → IsWithin (negsuc 127) (pos 255) z → IsWithin (negsuc 127) (pos 255) (to_z w128 (of_z w128 z))
of_byte z fits within = rw (to_z-of_z w128 z fits) within

pub low_byte-requires : goal.low_byte-requires
low_byte-requires c =
    let fits : SFits w128 c.in_ok-z.z = search rules in
    of_byte c.in_ok-z.z fits c.in_ok-z.ensures.range

pub returns-in_err-z : goal.returns-in_err-z
returns-in_err-z c =
    let p = err_from_is_err_and c.from_residual.result c.from_residual.ensures.1 in
    rw (p.1, p.2) (ap (of_number byte_said) c.in_err-z.ensures.value)

pub returns : goal.returns
returns c =
    let fits : SFits w128 c.in_ok-z.z = search rules in
    let same = to_z-of_z w128 c.in_ok-z.z fits in
    ap (λ b. Ok (Byte b)) (c.low_byte.ensures ∙ ap (modulo_two_to 8) same)
    ∙ ap (of_number byte_said) c.in_ok-z.ensures.value
