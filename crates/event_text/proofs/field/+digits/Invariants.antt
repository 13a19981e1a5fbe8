use Rattle.std.proofs.Common.{length}
use Rattle.event_text.proofs.field.+digits.Given as goal

abbrev pub decreases-digits : goal.decreases-digits
decreases-digits l = length l.text.now
