-- Files that are read.
use Rattle.std.specs.Prelude.{ℕ}

-- the most bytes of a file that is read
abbrev pub file_limit : ℕ
file_limit = 16777216
