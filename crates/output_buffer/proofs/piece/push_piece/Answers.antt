use Rattle.std.proofs.Common.{rules, w32, sym, ap, ◌∙◌}
use Rattle.std.proofs.lemmas.Int.{to_z-of_z}
use Rattle.std.specs.Fmt.{signed_decimal}
use Rattle.output_buffer.proofs.Hexadecimal.{padded_one}
use Rattle.output_buffer.proofs.Ways.{sends_as}
use Rattle.output_buffer.specs.Pieces.{piece_text}
use Rattle.output_buffer.proofs.piece.push_piece.Goals as goal

pub returns-in-Text : goal.returns-in-Text
returns-in-Text g c =
    sends_as _ _ _ _ (c.as_bytes.ensures.value ∙ ap piece_text (sym c.in-Text.is)) c.push.ensures

pub returns-in-Number : goal.returns-in-Number
returns-in-Number g c =
    sends_as _ _ _ _
    (c.as_bytes-in-Number.ensures.value ∙ c.format.ensures.text
    ∙ ap piece_text (sym c.in-Number.is))
    c.push-in-Number.ensures

pub returns-in-Signed : goal.returns-in-Signed
returns-in-Signed g c =
    sends_as _ _ _ _
    (ap signed_decimal (to_z-of_z w32 c.in-Signed.z (search rules))
    ∙ ap piece_text (sym c.in-Signed.is))
    c.push_signed.ensures

pub returns-in-Hexadecimal : goal.returns-in-Hexadecimal
returns-in-Hexadecimal g c =
    sends_as _ _ _ _
    (padded_one c.in-Hexadecimal.n (search rules) ∙ ap piece_text (sym c.in-Hexadecimal.is))
    c.push_hex.ensures

pub returns-in-Padded : goal.returns-in-Padded
returns-in-Padded g c =
    sends_as _ _ _ _ (ap piece_text (sym c.in-Padded.is)) c.push_hex-in-Padded.ensures
