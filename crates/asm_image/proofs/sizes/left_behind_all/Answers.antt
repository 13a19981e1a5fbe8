use Rattle.std.proofs.Common.{◌+◌, ◌≤◌, sym, subst, arith, take, map}
use Rattle.asm_image.specs.Sizes.{part_size, parts_size}
use Rattle.asm_image.proofs.Rooms.{sum_at, left_none, too_little}
use Rattle.asm_program.specs.Held.{part_of}
use Rattle.asm_program.specs.declared.part.Part.{Part}
use Rattle.asm_image.proofs.sizes.left_behind_all.Goals as goal

pub returns-in-None : goal.returns-in-None
returns-in-None c =
    let items = c.args.parts.now in
    let so_far = parts_size (map part_of (take c.loop-part.part-index items)) in
    let sum : so_far + part_size (part_of c.part-item.result) ≤ parts_size (map part_of items) =
    subst (λ (p : Part). so_far + part_size (part_of p) ≤ parts_size (map part_of items))
    (sym c.part-item.is)
    (sum_at part_size part_of items c.loop-part.part-index c.part-item.result (omega arith)) in
    let less = too_little c.loop-part.left (part_size (part_of c.part-item.result))
    c.in-None.ensures in
    left_none _ _ (omega (arith, sum, less, c.loop-part.invariant))
