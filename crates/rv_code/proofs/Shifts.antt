-- Runs of bits by two shifts, and small powers of two.
use Rattle.std.proofs.Common.{◌≡◌, ℕ, ◌+◌, ◌-◌, ◌*◌, ◌/◌, ◌%◌, ◌^◌, ◌<◌, ◌≤◌, sym, ◌∙◌, ap, arith}
use Rattle.std.proofs.lemmas.Nat.{field_of, shl-shr, shr-shr, pow_pos, pow_below, pow-add, one_shl}
use Rattle.instruction_model.specs.InstructionWord.{bits}

-- k places up and k + low places down leave the m bits from low on
run : (w k m low n : ℕ) → (m + low) + k ≡ n → w * 2 ^ k % 2 ^ n / 2 ^ k / 2 ^ low ≡ w / 2 ^ low % 2 ^ m
run w k m low n e = rw (← e) (rw (field_of (w * 2 ^ k) (m + low) k, shl-shr w k) (field_of w m low))

pub bits_shifts : (w high low : ℕ) → low ≤ high → high < 32 → w * 2 ^ (31 - high) % 2 ^ 32 / 2 ^ (31 - high + low) ≡ bits w high low
bits_shifts w high low h k =
    sym (shr-shr (w * 2 ^ (31 - high) % 2 ^ 32) (31 - high) low) ∙ run w (31 - high) (high + 1 - low) low 32 (omega arith)

-- a power of two of at most 30 bits, and its half
pub small_power : (k : ℕ) → k ≤ 30 → 1 ≤ k → (2 ^ k ≡ 2 * 2 ^ (k - 1)) × (2 ^ k < 2 ^ 31) × (1 * 2 ^ k % 2 ^ 32 ≡ 2 ^ k) × (1 * 2 ^ (k - 1) % 2 ^ 32 ≡ 2 ^ (k - 1)) × (0 < 2 ^ (k - 1))
small_power k h p =
    let e : 2 ^ k ≡ 2 ^ (1 + (k - 1)) = ap (λ x. 2 ^ x) (omega arith) in
    (e ∙ pow-add 2 1 (k - 1), pow_below k 31 (omega arith), one_shl k 32 (omega arith), one_shl (k - 1) 32 (omega arith), pow_pos (k - 1))
