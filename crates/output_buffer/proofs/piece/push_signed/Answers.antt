use Rattle.std.proofs.Common.{w32, ap, ◌∙◌}
use Rattle.std.proofs.lemmas.Int.{to_z-of_z}
use Rattle.output_buffer.proofs.Ways.{sends_as}
use Rattle.std.specs.Fmt.{signed_decimal}
use Rattle.output_buffer.proofs.piece.push_signed.Goals as goal

pub returns : goal.returns
returns g c =
    sends_as _ _ _ _
    (c.as_bytes.ensures.value ∙ c.format.ensures.text
    ∙ ap signed_decimal (to_z-of_z w32 c.args.z c.ranges.z))
    c.push.ensures
