use Rattle.std.proofs.Common.{◌≡◌, ◌+◌, drop}
use Rattle.std.specs.List.{position_or_len}
use Rattle.request_lines.specs.Requests.{is_space}
use Rattle.request_lines.proofs.words.place_of_space.Given as goal

-- the first space is the first of what is left
abbrev pub invariant-loop-i : goal.invariant-loop-i
invariant-loop-i l =
    l.i + position_or_len is_space (drop l.i l.line) ≡ position_or_len is_space l.line
