-- Words and the arithmetic of RV64IM (RISC-V unprivileged manual, "RV64I Base Integer
-- Instruction Set" and "M Extension for Integer Multiplication and Division").
-- A word is a whole number below 2 ^ 64. Each operation is a formula over whole numbers, and
-- its value is what is left of the formula's modulo 2 ^ 64.
use Rattle.std.specs.Prelude.{ℕ, ◌+◌, ◌-◌, ◌*◌, ◌/◌, ◌%◌, ◌^◌, ℤ, pos, negsuc, ◌-ℤ◌, ◌*ℤ◌}
use Rattle.std.specs.Prelude.{if◌then◌else◌, ◌==◌, nat_lt, int_lt, int_div, int_rem, bit_and}
use Rattle.std.specs.Prelude.{bit_or, bit_xor}
use Rattle.std.specs.Int.{w32, w64, cast_signed, from_bool, int_shr}

-- z modulo 2 ^ bits, where negsuc n is -(n + 1)
abbrev pub modulo_two_to : ℕ → ℤ → ℕ
modulo_two_to bits (pos n) = n % 2 ^ bits
modulo_two_to bits (negsuc n) = 2 ^ bits - 1 - n % 2 ^ bits

-- a number of so many bits, read as two's complement
abbrev pub signed_field : ℕ → ℕ → ℤ
signed_field bits n = if nat_lt n (2 ^ (bits - 1)) then pos n else negsuc (2 ^ bits - 1 - n)

-- the word that z is modulo 2 ^ 64
abbrev pub as_word : ℤ → ℕ
as_word z = modulo_two_to 64 z

-- a word read as signed: itself, or itself less 2 ^ 64 from 2 ^ 63 on
abbrev pub signed : ℕ → ℤ
signed a = cast_signed w64 a

-- the low 32 bits of a word
abbrev pub low : ℕ → ℕ
low a = a % 2 ^ 32

-- the low 32 bits of a word read as signed
abbrev pub signed_low : ℕ → ℤ
signed_low a = cast_signed w32 (low a)

-- the low 32 bits of a word, extended by their sign
abbrev pub sign_extended : ℕ → ℕ
sign_extended a = as_word (signed_low a)

-- ---- RV64I, on whole words

abbrev pub add : ℕ → ℕ → ℕ
add a b = (a + b) % 2 ^ 64

abbrev pub sub : ℕ → ℕ → ℕ
sub a b = as_word (pos a -ℤ pos b)

-- a shift's amount is the low six bits of its second operand
abbrev pub sll : ℕ → ℕ → ℕ
sll a b = a * 2 ^ (b % 64) % 2 ^ 64

abbrev pub srl : ℕ → ℕ → ℕ
srl a b = a / 2 ^ (b % 64)

-- the signed reading divided by the power of two, rounded down
abbrev pub sra : ℕ → ℕ → ℕ
sra a b = as_word (int_shr (signed a) (b % 64))

abbrev pub slt : ℕ → ℕ → ℕ
slt a b = from_bool (int_lt (signed a) (signed b))

abbrev pub sltu : ℕ → ℕ → ℕ
sltu a b = from_bool (nat_lt a b)

abbrev pub and : ℕ → ℕ → ℕ
and a b = bit_and a b

abbrev pub or : ℕ → ℕ → ℕ
or a b = bit_or a b

abbrev pub xor : ℕ → ℕ → ℕ
xor a b = bit_xor a b

-- ---- M, on whole words

abbrev pub mul : ℕ → ℕ → ℕ
mul a b = a * b % 2 ^ 64

-- the upper 64 bits of a product: signed by signed, signed by unsigned, unsigned by unsigned
abbrev pub mulh : ℕ → ℕ → ℕ
mulh a b = as_word (int_shr (signed a *ℤ signed b) 64)

abbrev pub mulhsu : ℕ → ℕ → ℕ
mulhsu a b = as_word (int_shr (signed a *ℤ pos b) 64)

abbrev pub mulhu : ℕ → ℕ → ℕ
mulhu a b = a * b / 2 ^ 64

-- The quotient is cut towards zero and the remainder has the dividend's sign. A division by
-- zero gives all ones, and the dividend as remainder.
abbrev pub div : ℕ → ℕ → ℕ
div a b = if b == 0 then 2 ^ 64 - 1 else as_word (int_div (signed a) (signed b))

abbrev pub divu : ℕ → ℕ → ℕ
divu a b = if b == 0 then 2 ^ 64 - 1 else a / b

abbrev pub rem : ℕ → ℕ → ℕ
rem a b = if b == 0 then a else as_word (int_rem (signed a) (signed b))

abbrev pub remu : ℕ → ℕ → ℕ
remu a b = if b == 0 then a else a % b

-- ---- the W forms: on the low 32 bits, and the 32-bit result extended by its sign

abbrev pub addw : ℕ → ℕ → ℕ
addw a b = sign_extended (low a + low b)

abbrev pub subw : ℕ → ℕ → ℕ
subw a b = sign_extended (as_word (pos (low a) -ℤ pos (low b)))

-- a W shift's amount is the low five bits of its second operand
abbrev pub sllw : ℕ → ℕ → ℕ
sllw a b = sign_extended (low a * 2 ^ (b % 32))

abbrev pub srlw : ℕ → ℕ → ℕ
srlw a b = sign_extended (low a / 2 ^ (b % 32))

abbrev pub sraw : ℕ → ℕ → ℕ
sraw a b = as_word (int_shr (signed_low a) (b % 32))

abbrev pub mulw : ℕ → ℕ → ℕ
mulw a b = sign_extended (low a * low b)

abbrev pub divw : ℕ → ℕ → ℕ
divw a b =
    if low b == 0 then 2 ^ 64 - 1
    else sign_extended (as_word (int_div (signed_low a) (signed_low b)))

abbrev pub divuw : ℕ → ℕ → ℕ
divuw a b = if low b == 0 then 2 ^ 64 - 1 else sign_extended (low a / low b)

abbrev pub remw : ℕ → ℕ → ℕ
remw a b =
    if low b == 0 then sign_extended a
    else sign_extended (as_word (int_rem (signed_low a) (signed_low b)))

abbrev pub remuw : ℕ → ℕ → ℕ
remuw a b = if low b == 0 then sign_extended a else sign_extended (low a % low b)
