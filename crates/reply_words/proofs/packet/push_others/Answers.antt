use Rattle.std.proofs.Common.{ap, ◌∙◌}
use Rattle.reply_words.specs.Spelling.{packet_behind_slash}
use Rattle.reply_words.proofs.Pushed.{item_fits, fits_as}
use Rattle.reply_words.proofs.packet.push_others.Goals as goal

-- where all fit, each does
pub returns-in_err-push_pieces-clause-room : goal.returns-in_err-push_pieces-clause-room
returns-in_err-push_pieces-clause-room c = λ fits.
    let next = item_fits packet_behind_slash c.args.packets.now c.packets.packet-index
    c.packet-item.result c.args.out.now c.packets.out c.packets-test.true fits
    c.packets.invariant.0 c.packets.invariant.1 in
    let same = ap packet_behind_slash (c.bytes.ensures.bytes ∙ c.packet-item.is) in
    let no = c.in_err-push_pieces.ensures.room (fits_as c.packets.out next same) in absurd (cc)
