-- What the outside holds, where it tells it. Where it tells nothing, nothing is claimed of it.
use Rattle.std.specs.Prelude.{◌≡◌, ℕ, ◌≤◌, List, ◌++◌, length, take, drop, Option, Some, None}

-- what was told stayed as it was
abbrev pub Keeps : Option (List ℕ) → Option (List ℕ) → Type 0
Keeps None after = Unit {0}
Keeps (Some told) after = after ≡ Some told

-- n bytes were read into the front of a buffer: the next ones of what was left
abbrev pub Reads : ℕ → List ℕ → Option (List ℕ) → Option (List ℕ) → Type 0
Reads n buffer None after = Unit {0}
Reads n buffer (Some left) after =
    (n ≤ length left) × (take n left ≡ take n buffer) × (after ≡ Some (drop n left))

-- at most `most` bytes were taken off the front of what was left
abbrev pub TakesAtMost : ℕ → Option (List ℕ) → Option (List ℕ) → Type 0
TakesAtMost most None after = Unit {0}
TakesAtMost most (Some left) after = (n : ℕ) × (n ≤ most) × (after ≡ Some (drop n left))

-- these bytes were added at the end of what was written before
abbrev pub Adds : List ℕ → Option (List ℕ) → Option (List ℕ) → Type 0
Adds bytes None after = Unit {0}
Adds bytes (Some before) after = after ≡ Some (before ++ bytes)
