use Rattle.std.proofs.Common.{sym, ◌∙◌}
use Rattle.elf64.proofs.Counting.{small_sum}
use Rattle.elf64.proofs.segments.check_loads.Goals as goal

pub file_size-requires : goal.file_size-requires
file_size-requires c =
    small_sum _ _ c.requires.small c.requires.few
    (sym c.has_wrong_ranges.ensures ∙ c.if-has_wrong_ranges.false)
