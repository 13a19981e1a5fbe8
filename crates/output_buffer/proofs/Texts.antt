-- Texts in pieces, a piece at a time.
use Rattle.std.proofs.Common.{◌≡◌, ◌<◌, List, [], ◌∷◌, ◌++◌, length, take, drop}
use Rattle.std.proofs.Common.{◌-◌, get_or, refl, ap, ◌∙◌, arith}
use Rattle.std.proofs.lemmas.List.{append-nil, take_all}
use Rattle.output_buffer.specs.Pieces.{piece_text, pieces_text}
use Rattle.output_buffer.specs.declared.piece.Piece.{Piece}

-- a piece more
pub pieces_more : (piece : Piece) (pieces : List Piece)
    → piece_text piece ++ pieces_text pieces ≡ pieces_text (piece ∷ pieces)
pieces_more piece [] = append-nil (piece_text piece)
pieces_more piece (next ∷ pieces) = refl

-- the first piece apart
pub split : (none : Piece) (pieces : List Piece) → 0 < length pieces
    → piece_text (get_or pieces 0 none)
    ++ pieces_text (take (length pieces - 1) (drop 1 pieces)) ≡ pieces_text pieces
split none [] some = absurd (omega arith)
split none (piece ∷ pieces) some =
    ap (λ l. piece_text piece ++ pieces_text l)
    (take_all (length (piece ∷ pieces) - 1) pieces (omega arith))
    ∙ pieces_more piece pieces
