use Rattle.std.proofs.Common.{◌≡◌, take, map}
use Rattle.std.specs.List.{flat_map}
use Rattle.asm_image.specs.ImageOf.{piece_bytes}
use Rattle.asm_program.specs.Held.{piece_of, labels_of}
use Rattle.asm_image.proofs.bytes.bytes_of.Given as goal

abbrev pub invariant-loop-piece : goal.invariant-loop-piece
invariant-loop-piece l =
    l.bytes.items ≡ flat_map (piece_bytes (labels_of l.labels))
    (map (piece_of l.part.at) (take l.piece-index l.part.pieces.items))
