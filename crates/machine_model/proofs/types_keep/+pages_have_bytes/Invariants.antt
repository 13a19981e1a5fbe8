use Rattle.std.proofs.Common.{length}
use Rattle.machine_model.proofs.types_keep.+pages_have_bytes.Given as goal

abbrev pub decreases-pages_have_bytes : goal.decreases-pages_have_bytes
decreases-pages_have_bytes l = length l.pages.now
