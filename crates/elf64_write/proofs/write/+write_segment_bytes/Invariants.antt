use Rattle.std.proofs.Common.{length}
use Rattle.elf64_write.proofs.write.+write_segment_bytes.Given as goal

abbrev pub decreases-write_segment_bytes : goal.decreases-write_segment_bytes
decreases-write_segment_bytes l = length l.segments.now
