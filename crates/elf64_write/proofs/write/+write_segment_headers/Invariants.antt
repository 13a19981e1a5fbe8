use Rattle.std.proofs.Common.{length}
use Rattle.elf64_write.proofs.write.+write_segment_headers.Given as goal

abbrev pub decreases-write_segment_headers : goal.decreases-write_segment_headers
decreases-write_segment_headers l = length l.segments.now
