use Rattle.std.proofs.Common.{◌≡◌, ◌∙◌, arith}
use Rattle.plain_space.proofs.Numbers.{one_byte, two_bytes, eight_bytes}
use Rattle.plain_space.proofs.bytes.read_number.Goals as goal

pub returns-in-1 : goal.returns-in-1
returns-in-1 c = λ memory at h.
    rw c.in-1.is (one_byte memory at c.args.bytes.now c.args.offset _ c.from.ensures
    (rw c.in-1.is at h))

pub returns-in-2 : goal.returns-in-2
returns-in-2 c = λ memory at h.
    rw c.in-2.is (two_bytes memory at c.args.bytes.now c.args.offset _
    (c.from-in-2.ensures ∙ c.from_le_bytes.ensures) (rw c.in-2.is at h))

pub returns-in_default : goal.returns-in_default
returns-in_default c =
    let e : c.args.n ≡ 8 = omega (arith, c.requires.size, c.in_default) in
    λ memory at h. rw e (eight_bytes memory at c.args.bytes.now c.args.offset _
    c.from_le_bytes-in_default.ensures (rw e at h))
