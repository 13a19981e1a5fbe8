use Rattle.std.proofs.Common.{◌≡◌, ◌+◌, take, map}
use Rattle.std.specs.List.{sum_by}
use Rattle.asm_image.specs.Sizes.{piece_size}
use Rattle.asm_program.specs.Held.{piece_of}
use Rattle.asm_image.proofs.sizes.left_behind.Given as goal

abbrev pub invariant-loop-piece : goal.invariant-loop-piece
invariant-loop-piece l =
    l.left + sum_by piece_size (map (piece_of l.part.at) (take l.piece-index l.part.pieces.items))
    ≡ l.room
