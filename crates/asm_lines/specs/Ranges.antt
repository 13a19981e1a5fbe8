-- Numbers as code has them: one that is far from 0 is taken to be 2 ^ 64 from it, which is out of
-- range wherever a number stands.
use Rattle.std.specs.Prelude.{◌-◌, ◌^◌, ℤ, pos, negsuc, ◌≤ℤ◌, Result, Ok, Err}
use Rattle.asm_words.specs.Near.{near}
use Rattle.asm_lines.specs.declared.fault.AsmKind.{AsmKind}

abbrev pub near_of : Result ℤ AsmKind → Result ℤ AsmKind
near_of (Ok z) = Ok (near z)
near_of (Err kind) = Err kind

-- a number that isn't near is out of the range
abbrev pub IsNearRange : (low high : ℤ) → Type 0
IsNearRange low high = (negsuc (2 ^ 64 - 2) ≤ℤ low) × (high ≤ℤ pos (2 ^ 64 - 1))

abbrev pub IsWithin : (low high z : ℤ) → Type 0
IsWithin low high z = (low ≤ℤ z) × (z ≤ℤ high)
