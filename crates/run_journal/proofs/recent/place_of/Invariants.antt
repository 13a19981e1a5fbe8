use Rattle.std.proofs.Common.{◌≡◌, ℕ, ◌<◌, ◌==◌, get_or, false}
use Rattle.run_journal.proofs.recent.place_of.Given as goal

-- the number was not met
abbrev pub invariant-loop-i : goal.invariant-loop-i
invariant-loop-i l = (k : ℕ) → k < l.i → (get_or l.numbers k 0 == l.number) ≡ false
