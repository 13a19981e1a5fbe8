use Rattle.std.proofs.Common.{◌≡◌, ◌+◌, take, map}
use Rattle.asm_image.specs.Sizes.{parts_size}
use Rattle.asm_program.specs.Held.{part_of}
use Rattle.asm_image.proofs.sizes.left_behind_all.Given as goal

abbrev pub invariant-loop-part : goal.invariant-loop-part
invariant-loop-part l =
    l.left + parts_size (map part_of (take l.part-index l.parts)) ≡ l.room
