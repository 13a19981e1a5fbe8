use Rattle.std.proofs.Common.{◌++◌, codes, ap}
use Rattle.asm_commands.proofs.Digits.{two}
use Rattle.asm_commands.specs.Listing.{hexadecimal}
use Rattle.output_buffer.proofs.Ways.{sends_as}
use Rattle.asm_commands.proofs.lines.push_byte.Goals as goal

pub returns : goal.returns
returns g c =
    sends_as _ _ _ _
    (ap (λ d. hexadecimal c.args.at
    ++ (codes " " ++ (d ++ (codes " .byte 0x" ++ (d ++ codes "\n"))))) (two c.args.b))
    c.push_pieces.ensures
