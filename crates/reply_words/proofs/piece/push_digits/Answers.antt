use Rattle.reply_words.specs.Spelling.{byte_text}
use Rattle.reply_words.proofs.Pushed.{item_fits}
use Rattle.reply_words.proofs.piece.push_digits.Goals as goal

-- where all fit, each does
pub returns-in_err-push_slice-clause-room : goal.returns-in_err-push_slice-clause-room
returns-in_err-push_slice-clause-room c = λ fits.
    let no = c.in_err-push_slice.ensures.room (item_fits byte_text c.args.bytes.now
    c.bytes.byte-index 0 c.args.out.now c.bytes.out c.bytes-test.true fits c.bytes.invariant.0
    c.bytes.invariant.1) in absurd (cc)
