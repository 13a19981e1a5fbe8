-- How objects of the outside count their edge faults.
use Rattle.std.specs.Prelude.{◌≡◌, ℕ, ◌+◌, ◌-◌, ◌^◌, ◌<◌, ◌⊎◌, min}

-- the end of a count's type, where the count stands still
abbrev pub last_count : ℕ
last_count = 2 ^ 64 - 1

-- A count of faults rises. A count that is at its type's end stands still.
abbrev pub Rises : ℕ → ℕ → Type 0
Rises before after = (before < after) ⊎ (before ≡ last_count)

-- the count that follows
abbrev pub next_count : ℕ → ℕ
next_count count = min (count + 1) last_count
