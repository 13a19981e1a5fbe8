use Rattle.std.proofs.Common.{◌≡◌, ◌*◌, drop}
use Rattle.reply_words.specs.Reading.{pairs_of}
use Rattle.reply_words.proofs.Parts.{behind}
use Rattle.reply_words.proofs.packet.read_pairs.Given as goal

-- what was read stands before what is left
abbrev pub invariant-pairs : goal.invariant-pairs
invariant-pairs l = pairs_of l.word ≡ behind l.bytes.items (pairs_of (drop (2 * l.n) l.word))
