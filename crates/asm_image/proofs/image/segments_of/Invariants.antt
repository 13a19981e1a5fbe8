use Rattle.std.proofs.Common.{◌≡◌, take, map}
use Rattle.asm_image.specs.ImageOf.{segment_for}
use Rattle.asm_program.specs.Held.{part_of, labels_of}
use Rattle.asm_image.proofs.image.segments_of.Given as goal

abbrev pub invariant-loop-part : goal.invariant-loop-part
invariant-loop-part l =
    l.segments.items ≡ map (segment_for (labels_of l.labels))
    (map part_of (take l.part-index l.parts))
