use Rattle.std.proofs.Common.{◌≡◌, ◌+◌, drop}
use Rattle.std.specs.List.{position_or_len}
use Rattle.request_lines.specs.Requests.{is_feed}
use Rattle.request_lines.proofs.split.place_of_feed.Given as goal

-- the first line feed is the first of what is left
abbrev pub invariant-loop-i : goal.invariant-loop-i
invariant-loop-i l =
    l.i + position_or_len is_feed (drop l.i l.text) ≡ position_or_len is_feed l.text
