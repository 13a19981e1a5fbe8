use Rattle.std.proofs.Common.{rules, ◌≡◌, ◌+◌, ◌*◌, ◌<◌, ◌++◌, ◌∷◌, [], length, arith}
use Rattle.reply_words.proofs.Parts.{pairs_step, pairs_odd}
use Rattle.reply_words.proofs.packet.read_pairs.Goals as goal

pub pairs-preserved : goal.pairs-preserved
pairs-preserved c =
    let word = c.args.word.now in
    let n = c.pairs.n in
    let high = c.low_digit-high in
    let low = c.low_digit-low in
    let some : 2 * n + 1 < length word = omega arith in
    let more : c.push.new.self.items
    ≡ c.pairs.bytes.items ++ ((high.result * 16 + low.result) ∷ []) = search rules in
    pairs_step word n c.pairs.bytes.items c.push.new.self.items high.result low.result some
    high.ensures low.ensures (omega arith) (omega arith) more c.pairs.invariant

pub returns-then-word-eq1 : goal.returns-then-word-eq1
returns-then-word-eq1 c =
    let word = c.args.word.now in
    let n = c.pairs.n in
    let size : length word ≡ 2 * n + 1 = omega arith in
    pairs_odd word n c.pairs.bytes.items size c.pairs.invariant
