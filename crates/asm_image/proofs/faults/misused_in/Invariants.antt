use Rattle.std.proofs.Common.{◌≡◌, drop, map}
use Rattle.asm_program.specs.Held.{piece_of, labels_of}
use Rattle.asm_image.specs.Misuse.{is_misused}
use Rattle.asm_image.specs.Uses.{first_line}
use Rattle.asm_image.proofs.faults.misused_in.Given as goal

abbrev pub invariant-loop-piece : goal.invariant-loop-piece
invariant-loop-piece l =
    let line = first_line (is_misused l.misuse (labels_of l.labels)) in
    line (map (piece_of l.part.at) (drop l.piece-index l.part.pieces.items))
    ≡ line (map (piece_of l.part.at) l.part.pieces.items)
