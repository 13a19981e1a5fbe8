-- Where a line ends, by the place of the line feed behind it.
use Rattle.std.specs.Prelude.{ℕ, ◌-◌, ◌==◌, nat_lt, ◌&&◌, if◌then◌else◌, List, slice_index}

-- a carriage return directly before the line feed is no part of the line
abbrev pub line_end : (text : List ℕ) → (feed : ℕ) → ℕ
line_end text feed =
    if nat_lt 0 feed && slice_index text (feed - 1) == 13 then feed - 1 else feed
