-- The two's complement form of a negative number is the number plus the power of two.
use Rattle.std.proofs.Common.{◌≡◌, ℕ, ◌^◌, ◌<◌, ◌≤◌, arith}
use Rattle.std.specs.Prelude.{ℤ, pos, negsuc, ◌+ℤ◌, ◌<ℤ◌}
use Rattle.std.proofs.Math.Nat.{mod-eq_of_lt}
use Rattle.std.proofs.lemmas.Int.{ints}
use Rattle.instruction_model.specs.InstructionWord.{FitsBits}
use Rattle.instruction_model.specs.Word.{modulo_two_to}
use Rattle.rv_code.proofs.Shifts.{small_power}
use Rattle.rv_code.proofs.field.unsigned.Goals as goal

modulo_negative : (width : ℕ) (z : ℤ) → width ≤ 30 → 1 ≤ width → FitsBits width z → z <ℤ pos 0 → pos (modulo_two_to width z) ≡ z +ℤ pos (2 ^ width)
modulo_negative width (pos n) narrow some fits h = absurd (omega (arith, ints))
modulo_negative width (negsuc n) narrow some fits h =
    let p = small_power width narrow some in
    let below : n < 2 ^ width = omega (arith, ints, p) in
    let m = mod-eq_of_lt below in
    omega (arith, ints, m, p)

pub returns-then-z-lt0 : goal.returns-then-z-lt0
returns-then-z-lt0 c =
    let p = small_power c.args.width c.requires.narrow c.requires.some_bits in
    let z = c.args.z in
    let neg : z <ℤ pos 0 = omega (arith, ints) in
    let m = modulo_negative c.args.width z c.requires.narrow c.requires.some_bits c.requires.within neg in
    omega (arith, ints, p, m)
