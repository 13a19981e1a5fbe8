-- What is pushed behind bytes.
use Rattle.std.specs.Prelude.{◌≡◌, ◌+◌, ◌≤◌, ℕ, Bool, true, List, [], ◌∷◌, ◌++◌, length, take}
use Rattle.std.specs.Prelude.{vec_items, vec_capacity}
use Rattle.std.specs.Global.{Vec}
use Rattle.std.specs.Fmt.{decimal}
use Rattle.reply_words.specs.Spelling.{hexadecimal, bytes_text}
use Rattle.reply_words.specs.declared.piece.Piece.{Piece}
use Rattle.reply_words.specs.declared.piece.Piece.TheVariants.{Text, Decimal, Hexadecimal, Bytes}

-- Behind the old bytes stands the text, where all of it was pushed; the old ones stay in any case.
pub record Pushes (all : Bool) (text old new : List ℕ) : Type 0 where
  pub pushed : all ≡ true → new ≡ old ++ text
  pub kept : take (length old) new ≡ old

-- the text fits behind the bytes without their growing
abbrev pub HasRoom : (text : List ℕ) → Vec ℕ → Type 0
HasRoom text out = length (vec_items out) + length text ≤ vec_capacity out

abbrev pub piece_text : Piece → List ℕ
piece_text (Text text) = text.now
piece_text (Decimal n) = decimal n
piece_text (Hexadecimal n) = hexadecimal n
piece_text (Bytes bytes) = bytes_text bytes.now

-- the texts of pieces, one behind the other
abbrev pub pieces_text : List Piece → List ℕ
pieces_text [] = []
pieces_text (piece ∷ []) = piece_text piece
pieces_text (piece ∷ (next ∷ pieces)) = piece_text piece ++ pieces_text (next ∷ pieces)
