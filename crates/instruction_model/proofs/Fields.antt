-- Bits of a number, and signed numbers as fields.
use Rattle.std.proofs.Common.{◌≡◌, ℕ, ◌-◌, ◌%◌, ◌^◌, ◌<◌, arith}
use Rattle.std.specs.Prelude.{ℤ, pos, negsuc, nat_lt, if◌then◌else◌}
use Rattle.std.proofs.lemmas.Int.{ints}
use Rattle.std.proofs.lemmas.Bool.Decides.{nat_tests}
use Rattle.instruction_model.specs.Word.{modulo_two_to, signed_field}
use Rattle.instruction_model.specs.InstructionWord.{FitsBits, IsOffset}

-- ---- 12 bits

pub modulo-signed_12 : (n : ℕ) → n < 2 ^ 12 → modulo_two_to 12 (signed_field 12 n) ≡ n
modulo-signed_12 n h = grind (arith, nat_tests)

pub signed-modulo_12 : (z : ℤ) → FitsBits 12 z → signed_field 12 (modulo_two_to 12 z) ≡ z
signed-modulo_12 (pos n) h = grind (arith, nat_tests)
signed-modulo_12 (negsuc n) h = grind (arith, nat_tests)

pub fits-signed_12 : (n : ℕ) → n < 2 ^ 12 → FitsBits 12 (signed_field 12 n)
fits-signed_12 n h = grind (arith, ints, nat_tests)

pub modulo-lt_12 : (z : ℤ) → modulo_two_to 12 z < 2 ^ 12
modulo-lt_12 (pos n) = omega arith
modulo-lt_12 (negsuc n) = omega arith

-- ---- 13 bits

pub modulo-signed_13 : (n : ℕ) → n < 2 ^ 13 → modulo_two_to 13 (signed_field 13 n) ≡ n
modulo-signed_13 n h = grind (arith, nat_tests)

pub signed-modulo_13 : (z : ℤ) → FitsBits 13 z → signed_field 13 (modulo_two_to 13 z) ≡ z
signed-modulo_13 (pos n) h = grind (arith, nat_tests)
signed-modulo_13 (negsuc n) h = grind (arith, nat_tests)

pub modulo-lt_13 : (z : ℤ) → modulo_two_to 13 z < 2 ^ 13
modulo-lt_13 (pos n) = omega arith
modulo-lt_13 (negsuc n) = omega arith

pub offset-signed_13 : (n : ℕ) → n < 2 ^ 13 → n % 2 ≡ 0 → IsOffset 13 (signed_field 13 n)
offset-signed_13 n h e = grind (arith, ints, nat_tests)

pub even-modulo_13 : (z : ℤ) → IsOffset 13 z → modulo_two_to 13 z % 2 ≡ 0
even-modulo_13 (pos n) h = omega arith
even-modulo_13 (negsuc n) h = omega arith

-- ---- 21 bits

pub modulo-signed_21 : (n : ℕ) → n < 2 ^ 21 → modulo_two_to 21 (signed_field 21 n) ≡ n
modulo-signed_21 n h = grind (arith, nat_tests)

pub signed-modulo_21 : (z : ℤ) → FitsBits 21 z → signed_field 21 (modulo_two_to 21 z) ≡ z
signed-modulo_21 (pos n) h = grind (arith, nat_tests)
signed-modulo_21 (negsuc n) h = grind (arith, nat_tests)

pub modulo-lt_21 : (z : ℤ) → modulo_two_to 21 z < 2 ^ 21
modulo-lt_21 (pos n) = omega arith
modulo-lt_21 (negsuc n) = omega arith

pub offset-signed_21 : (n : ℕ) → n < 2 ^ 21 → n % 2 ≡ 0 → IsOffset 21 (signed_field 21 n)
offset-signed_21 n h e = grind (arith, ints, nat_tests)

pub even-modulo_21 : (z : ℤ) → IsOffset 21 z → modulo_two_to 21 z % 2 ≡ 0
even-modulo_21 (pos n) h = omega arith
even-modulo_21 (negsuc n) h = omega arith
