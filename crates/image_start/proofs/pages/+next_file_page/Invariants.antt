use Rattle.std.proofs.Common.{length}
use Rattle.image_start.proofs.pages.+next_file_page.Given as goal

abbrev pub decreases-next_file_page : goal.decreases-next_file_page
decreases-next_file_page l = length l.segments.now
