use Rattle.std.proofs.Common.{◌≡◌, length}
use Rattle.reply_words.specs.Reading.{parts_of}
use Rattle.reply_words.proofs.Parts.{behind}
use Rattle.reply_words.proofs.packet.read_packets.Given as goal

-- what was read stands before what is left
abbrev pub invariant-packets : goal.invariant-packets
invariant-packets l = parts_of l.fn.word ≡ behind l.packets.items (parts_of l.text)

abbrev pub decreases-packets : goal.decreases-packets
decreases-packets l = length l.text
