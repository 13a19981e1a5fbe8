use Rattle.std.proofs.Common.{◌≡◌, ◌+◌, ◌≤◌, None, sym, subst, arith, take, map}
use Rattle.asm_image.specs.Sizes.{part_size, parts_size}
use Rattle.asm_image.specs.Uses.{is_far, first_line}
use Rattle.asm_image.proofs.Lines.{none_at}
use Rattle.asm_image.proofs.Rooms.{sum_at}
use Rattle.asm_program.specs.Held.{part_of, labels_of}
use Rattle.asm_program.specs.declared.part.Part.{Part}
use Rattle.asm_image.proofs.image.segments_of.Goals as goal

pub segment_of-requires-clause-near : goal.segment_of-requires-clause-near
segment_of-requires-clause-near c =
    let test = is_far (labels_of c.args.labels.now) in
    subst (λ (p : Part). first_line test (part_of p).pieces ≡ None) (sym c.part-item.is)
    (none_at test c.args.parts.now c.loop-part.part-index c.part-item.result c.requires.near
    (omega arith))

pub segment_of-requires-clause-room : goal.segment_of-requires-clause-room
segment_of-requires-clause-room c =
    let items = c.args.parts.now in
    let so_far = parts_size (map part_of (take c.loop-part.part-index items)) in
    let sum : so_far + part_size (part_of c.part-item.result) ≤ parts_size (map part_of items) =
    subst (λ (p : Part). so_far + part_size (part_of p) ≤ parts_size (map part_of items))
    (sym c.part-item.is)
    (sum_at part_size part_of items c.loop-part.part-index c.part-item.result (omega arith)) in
    omega (arith, sum, c.requires.room)
