use Rattle.std.proofs.Common.{ℕ, ◌==◌, length, sym, arith}
use Rattle.std.proofs.lemmas.List.Sums.{position_or_len_is}
use Rattle.run_journal.proofs.recent.place_of.Goals as goal

-- it stands nowhere
pub returns : goal.returns
returns c =
    sym (position_or_len_is (λ (y : ℕ). y == c.args.number) c.args.numbers.now
    (length c.args.numbers.now) 0 (omega arith) (λ k h. c.loop-i.invariant k (omega arith))
    (λ h. absurd (omega arith)))
