use Rattle.std.proofs.Common.{◌≡◌, ◌+◌, ◌≤◌, false, sym, subst, ap, ◌∙◌, get_or, arith, length, take, map}
use Rattle.std.specs.List.{sum_by}
use Rattle.asm_image.specs.Sizes.{piece_size}
use Rattle.asm_image.specs.Uses.{is_far}
use Rattle.asm_image.proofs.Lines.{fails_at}
use Rattle.asm_image.proofs.Rooms.{sum_at, bytes_size}
use Rattle.asm_program.specs.Held.{piece_of, labels_of}
use Rattle.asm_program.specs.declared.piece.Piece.{Piece}
use Rattle.asm_image.proofs.bytes.bytes_of.Goals as goal

pub add_piece-requires-clause-near : goal.add_piece-requires-clause-near
add_piece-requires-clause-near c =
    let is = c.piece-item.is
    ∙ ap (λ ps. get_or ps c.loop-piece.piece-index c.piece-item.result)
    c.deref-piece-items.ensures.value in
    subst (λ (p : Piece). is_far (labels_of c.args.labels.now) (piece_of c.args.part.now.at p)
    ≡ false) (sym is)
    (fails_at (is_far (labels_of c.args.labels.now)) (piece_of c.args.part.now.at)
    c.args.part.now.pieces.items c.loop-piece.piece-index c.piece-item.result c.requires.near
    (omega arith))

pub add_piece-requires-clause-room : goal.add_piece-requires-clause-room
add_piece-requires-clause-room c =
    let at = c.args.part.now.at in
    let items = c.args.part.now.pieces.items in
    let is = c.piece-item.is
    ∙ ap (λ ps. get_or ps c.loop-piece.piece-index c.piece-item.result)
    c.deref-piece-items.ensures.value in
    let so_far = sum_by piece_size (map (piece_of at) (take c.loop-piece.piece-index items)) in
    let sum : so_far + piece_size (piece_of at c.piece-item.result)
    ≤ sum_by piece_size (map (piece_of at) items) =
    subst (λ (p : Piece). so_far + piece_size (piece_of at p)
    ≤ sum_by piece_size (map (piece_of at) items)) (sym is)
    (sum_at piece_size (piece_of at) items c.loop-piece.piece-index c.piece-item.result
    (omega arith)) in
    let made = ap length c.loop-piece.invariant in
    let size = bytes_size (labels_of c.args.labels.now)
    (map (piece_of at) (take c.loop-piece.piece-index items)) in
    omega (arith, sum, made, size, c.requires.room, c.loop-piece.bytes.ok.0)
