use Rattle.std.proofs.Common.{arith}
use Rattle.plain_space.proofs.Numbers.{take-to_le_bytes}
use Rattle.counted_store.proofs.space.StakedSpaceSpace.store.Goals as goal

pub returns-clause-stored : goal.returns-clause-stored
returns-clause-stored g c =
    let made = c.to_le_bytes-bytes in
    let low = take-to_le_bytes c.from.result c.args.v made.result
    (omega (arith, c.from.ensures, c.requires.size)) made.ensures in
    rw (← c.from.ensures, ← low) c.put.ensures.stored
