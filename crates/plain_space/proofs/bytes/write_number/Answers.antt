use Rattle.std.proofs.Common.{◌≡◌, length, take, ap, arith, lit≤}
use Rattle.std.proofs.lemmas.List.{take_all}
use Rattle.plain_space.proofs.Numbers.{take-to_le_bytes}
use Rattle.plain_space.proofs.bytes.write_number.Goals as goal

pub returns-in-1 : goal.returns-in-1
returns-in-1 c =
    rw (c.in-1.is, ← take-to_le_bytes 1 c.args.v _ (lit≤ tt) c.to_le_bytes-all.ensures)
    c.write_piece.ensures

pub returns-in-2 : goal.returns-in-2
returns-in-2 c =
    rw (c.in-2.is, ← take-to_le_bytes 2 c.args.v _ (lit≤ tt) c.to_le_bytes-all.ensures)
    c.write_piece-in-2.ensures

pub returns-in-4 : goal.returns-in-4
returns-in-4 c =
    rw (c.in-4.is, ← take-to_le_bytes 4 c.args.v _ (lit≤ tt) c.to_le_bytes-all.ensures)
    c.write_piece-in-4.ensures

pub returns-in_default : goal.returns-in_default
returns-in_default c =
    let e : c.args.n ≡ 8 = omega (arith, c.requires.size, c.in_default) in
    let all = c.to_le_bytes-all.result in
    let low = take-to_le_bytes 8 c.args.v all (lit≤ tt) c.to_le_bytes-all.ensures in
    let whole : take 8 all ≡ all =
    take_all 8 all (omega (arith, ap length c.to_le_bytes-all.ensures)) in
    rw (e, ← low, whole) c.write_piece-in_default.ensures
