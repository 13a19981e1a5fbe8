-- Numbers of any size as code has them: one that is farther than 2 ^ 64 from 0 is taken to be so
-- far. No number that has a place in a line is as far as that.
use Rattle.std.specs.Prelude.{ℕ, ◌-◌, ◌^◌, min, ℤ, pos, negsuc}

abbrev pub near_size : ℕ → ℕ
near_size n = min n (2 ^ 64)

-- negsuc n is -(n + 1)
abbrev pub near : ℤ → ℤ
near (pos n) = pos (near_size n)
near (negsuc n) = negsuc (min n (2 ^ 64 - 1))
