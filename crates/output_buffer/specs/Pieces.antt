-- Texts in pieces.
use Rattle.std.specs.Prelude.{ℕ, ◌-◌, false, List, [], ◌∷◌, ◌++◌, length, replicate}
use Rattle.std.specs.Fmt.{decimal, digits, signed_decimal}
use Rattle.output_buffer.specs.declared.piece.Piece.{Piece}
use Rattle.output_buffer.specs.declared.piece.Piece.TheVariants.{Text, Number, Signed}
use Rattle.output_buffer.specs.declared.piece.Piece.TheVariants.{Hexadecimal, Padded}

-- a number in hexadecimal, behind zeros up to so many digits
unfoldable pub padded : (width n : ℕ) → List ℕ
padded width n = let shown = digits 16 false n in replicate (width - length shown) 48 ++ shown

abbrev pub piece_text : Piece → List ℕ
piece_text (Text text) = text.now
piece_text (Number n) = decimal n
piece_text (Signed z) = signed_decimal z
piece_text (Hexadecimal n) = digits 16 false n
piece_text (Padded n width) = padded width n

-- the texts of pieces, one behind the other
abbrev pub pieces_text : List Piece → List ℕ
pieces_text [] = []
pieces_text (piece ∷ []) = piece_text piece
pieces_text (piece ∷ (next ∷ pieces)) = piece_text piece ++ pieces_text (next ∷ pieces)
