use Rattle.std.proofs.Common.{◌≡◌, ℕ, ◌<◌, get_or, false}
use Rattle.event_text.specs.Reading.{is_space}
use Rattle.event_text.proofs.field.word_size.Given as goal

-- no space was met
abbrev pub invariant-loop-i : goal.invariant-loop-i
invariant-loop-i l = (k : ℕ) → k < l.i → is_space (get_or l.text k 0) ≡ false
