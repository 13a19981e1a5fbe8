use Rattle.std.proofs.Common.{◌%◌, ◌∙◌, ap}
use Rattle.std.specs.Prelude.{◌==◌, unsigned_abs}
use Rattle.std.specs.Int.{w32}
use Rattle.std.proofs.lemmas.Int.{to_z-of_z}
use Rattle.asm_lines.proofs.operand.is_even.Goals as goal

pub returns : goal.returns
returns c =
    ap (λ n. n % 2 == 0)
    (c.unsigned_abs.ensures.value ∙ ap unsigned_abs (to_z-of_z w32 c.args.z c.ranges.z))
