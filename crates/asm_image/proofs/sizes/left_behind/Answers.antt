use Rattle.std.proofs.Common.{◌+◌, ◌≤◌, sym, subst, ap, ◌∙◌, get_or, arith, take, map}
use Rattle.std.specs.List.{sum_by}
use Rattle.asm_image.specs.Sizes.{piece_size}
use Rattle.asm_image.proofs.Rooms.{sum_at, left_none}
use Rattle.asm_program.specs.Held.{piece_of}
use Rattle.asm_program.specs.declared.piece.Piece.{Piece}
use Rattle.asm_image.proofs.sizes.left_behind.Goals as goal

pub returns-in-None : goal.returns-in-None
returns-in-None c =
    let at = c.args.part.now.at in
    let items = c.args.part.now.pieces.items in
    let is = c.piece-item.is
    ∙ ap (λ ps. get_or ps c.loop-piece.piece-index c.piece-item.result)
    c.deref-piece-items.ensures.value in
    let so_far = sum_by piece_size (map (piece_of at) (take c.loop-piece.piece-index items)) in
    let sum : so_far + piece_size (piece_of at c.piece-item.result)
    ≤ sum_by piece_size (map (piece_of at) items) =
    subst (λ (p : Piece). so_far + piece_size (piece_of at p)
    ≤ sum_by piece_size (map (piece_of at) items)) (sym is)
    (sum_at piece_size (piece_of at) items c.loop-piece.piece-index c.piece-item.result
    (omega arith)) in
    left_none _ _ (omega (arith, sum, c.loop-piece.invariant, c.in-None.ensures, c.byte_count.ensures))
