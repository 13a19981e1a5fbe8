use Rattle.std.proofs.Common.{◌≡◌, drop, map}
use Rattle.asm_program.specs.Held.{part_of, labels_of}
use Rattle.asm_image.specs.Misuse.{is_misused}
use Rattle.asm_image.specs.Uses.{first_line, pieces_of}
use Rattle.asm_image.proofs.faults.misused_line.Given as goal

abbrev pub invariant-loop-part : goal.invariant-loop-part
invariant-loop-part l =
    let line = first_line (is_misused l.misuse (labels_of l.labels)) in
    line (pieces_of (map part_of (drop l.part-index l.parts)))
    ≡ line (pieces_of (map part_of l.parts))
