use Rattle.std.proofs.Common.{length}
use Rattle.reply_words.proofs.number.+digits.Given as goal

abbrev pub decreases-digits : goal.decreases-digits
decreases-digits l = length l.text.now
