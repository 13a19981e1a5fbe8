use Rattle.std.proofs.Common.{length}
use Rattle.plan_text.proofs.names.+are_name_characters.Given as goal

abbrev pub decreases-are_name_characters : goal.decreases-are_name_characters
decreases-are_name_characters l = length l.text.now
