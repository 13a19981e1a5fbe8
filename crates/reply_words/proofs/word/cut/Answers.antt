use Rattle.std.proofs.Common.{arith}
use Rattle.reply_words.proofs.Parts.{cut_here, cut_none}
use Rattle.reply_words.proofs.word.cut.Goals as goal

pub returns-then-byte-mark : goal.returns-then-byte-mark
returns-then-byte-mark c =
    cut_here c.args.mark c.args.text.now c.loop-i.i c.loop-i.invariant (omega arith)
    c.if-byte-mark.true

pub returns : goal.returns
returns c = cut_none c.args.mark c.args.text.now (λ k h. c.loop-i.invariant k (omega arith))
