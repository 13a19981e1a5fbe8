use Rattle.std.proofs.Common.{arith}
use Rattle.plain_space.specs.PlainSpace as plain
use Rattle.space_laws.proofs.Stretches.{write-fits}
use Rattle.counted_store.proofs.counted.Counted.ends_below.Goals as goal

pub returns : goal.returns
returns c =
    write-fits (plain.flat c.args.self.now.plain) c.args.at c.args.size c.requires.sound.below
    c.requires.writable c.requires.short (omega arith) c.requires.some
