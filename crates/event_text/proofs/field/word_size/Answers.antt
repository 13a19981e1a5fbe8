use Rattle.std.proofs.Common.{length, sym, arith}
use Rattle.std.proofs.lemmas.List.Sums.{position_or_len_is}
use Rattle.event_text.specs.Reading.{word_size, is_space}
use Rattle.event_text.proofs.field.word_size.Goals as goal

pub returns-clause-size : goal.returns-clause-size
unfolding word_size
returns-clause-size c =
    sym (position_or_len_is is_space c.args.text.now (length c.args.text.now) 0 (omega arith)
    (λ k h. c.loop-i.invariant k (omega arith)) (λ h. absurd (omega arith)))
