-- Offsets that an instruction has room for.
use Rattle.std.specs.Prelude.{◌≡◌, ℕ, ◌-◌, ◌%◌, ℤ, pos, negsuc, ◌≤ℤ◌, unsigned_abs}

-- even, from a limit back up to below it
abbrev pub IsWithin : (limit : ℕ) → ℤ → Type 0
IsWithin limit z =
    (negsuc (limit - 1) ≤ℤ z) × (z ≤ℤ pos (limit - 1)) × (unsigned_abs z % 2 ≡ 0)
