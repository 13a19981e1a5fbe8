use Rattle.std.proofs.Common.{rules, ◌≡◌, [], ◌∷◌, ◌++◌, None, codes, false}
use Rattle.std.specs.Str.{bytes_eq}
use Rattle.reply_words.specs.Reading.{cut_of}
use Rattle.reply_words.proofs.Parts.{cut_shorter, packet_more, packet_none, last_none, last_packet}
use Rattle.reply_words.proofs.packet.read_packets.Goals as goal

pub returns-in-None : goal.returns-in-None
returns-in-None c =
    let word = c.args.word.now in
    let text = c.packets.text.now in
    let some : bytes_eq word (codes "none") ≡ false = search rules in
    packet_none word text _ c.packets.packets.items c.in_ok-packet.field-0 some
    c.packets.invariant c.in-Some.ensures c.in_ok-packet.ensures c.in-None.is

pub packets-smaller : goal.packets-smaller
packets-smaller c = cut_shorter 47 c.packets.text.now _ c.in-Some.ensures

pub packets-preserved : goal.packets-preserved
packets-preserved c =
    let word = c.args.word.now in
    let text = c.packets.text.now in
    let packet = c.in-Some-2.packet in
    let more : c.push_packet.new.packets.items ≡ c.packets.packets.items ++ (packet ∷ []) =
    search rules in
    packet_more word text _ c.packets.packets.items c.push_packet.new.packets.items
    c.in_ok-packet.field-0 packet c.packets.invariant c.in-Some.ensures c.in_ok-packet.ensures
    c.in-Some-2.is more

pub returns-in-None-2 : goal.returns-in-None-2
returns-in-None-2 c =
    let word = c.args.word.now in
    let text = c.packets.text.now in
    let some : bytes_eq word (codes "none") ≡ false = search rules in
    let whole : cut_of 47 text ≡ None = search rules in
    last_none word text c.packets.packets.items c.in_ok-packet-2.field-0 some
    c.packets.invariant whole c.in_ok-packet-2.ensures c.in-None-2.is

pub returns : goal.returns
returns c =
    let word = c.args.word.now in
    let text = c.packets.text.now in
    let packet = c.in-Some-3.packet in
    let new = c.push_packet-in-Some-3.new.packets.items in
    let some : bytes_eq word (codes "none") ≡ false = search rules in
    let whole : cut_of 47 text ≡ None = search rules in
    let more : new ≡ c.packets.packets.items ++ (packet ∷ []) = search rules in
    let all : c.new.result ≡ c.packets.packets.items ++ (packet ∷ []) = search rules in
    last_packet word text c.packets.packets.items c.new.result c.in_ok-packet-2.field-0 packet
    some c.packets.invariant whole c.in_ok-packet-2.ensures c.in-Some-3.is all
