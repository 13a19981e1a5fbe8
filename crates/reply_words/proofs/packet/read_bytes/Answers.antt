use Rattle.std.proofs.Common.{rules, ◌≡◌, ◌≤◌, ◌∙◌, sym, length, Some, codes, false, arith}
use Rattle.std.specs.Str.{bytes_eq}
use Rattle.reply_words.specs.Reading.{pairs_of}
use Rattle.reply_words.proofs.Bytes.{pairs_is, new_packet, bytes_of_pairs}
use Rattle.reply_words.proofs.packet.read_bytes.Goals as goal

pub returns-in-Some : goal.returns-in-Some
returns-in-Some c =
    let word = c.args.word.now in
    let bytes = c.in-Some.bytes.items in
    let new = c.new-in-Some in
    let read : pairs_of word ≡ Some bytes = rw c.in-Some.is at c.in_ok-bytes.ensures in
    let size = (pairs_is word bytes read).size in
    let dash : bytes_eq word (codes "-") ≡ false = search rules in
    let some : 1 ≤ length word = search rules in
    let few : length word ≤ 65536 = search rules in
    new_packet new.result bytes new.ensures.packet new.ensures.none (omega (arith, size, few))
    ∙ sym (bytes_of_pairs word bytes dash some few read)
