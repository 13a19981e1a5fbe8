use Rattle.plain_space.proofs.Numbers.{four_bytes}
use Rattle.plain_space.proofs.bytes.read_word.Goals as goal

pub returns : goal.returns
returns c = λ memory at h.
    four_bytes memory at c.args.bytes.now c.args.offset _ c.from_le_bytes.ensures h
