use Rattle.std.proofs.Common.{◌≡◌, ◌==◌, take}
use Rattle.std.specs.List.{list_all}
use Rattle.plain_space.proofs.page_copies.are_zeros.Given as goal

abbrev pub invariant-bytes : goal.invariant-bytes
invariant-bytes l = (l.most == 0) ≡ list_all (λ byte. byte == 0) (take l.byte-index l.bytes)
