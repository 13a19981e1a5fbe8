-- What an instruction computes is a word.
use Rattle.std.proofs.Common.{ℕ, zero, suc, ◌*◌, ◌/◌, ◌%◌, ◌^◌, ◌<◌, Bool, true, false, if◌then◌else◌, List, [], ◌∷◌, length, inl, inr, arith}
use Rattle.std.specs.Prelude.{ℤ, pos, negsuc, ◌==◌, slice_index}
use Rattle.std.specs.Int.{from_bool}
use Rattle.std.proofs.lemmas.Bool.{cases_lt}
use Rattle.std.proofs.lemmas.List.{get_or_past}
use Rattle.std.proofs.lemmas.List.Elements.{All-nil, All-cons, All-head, All-tail, All-push}
use Rattle.std.proofs.lemmas.Nat.{pow_pos, shr_le, and_le_l, or_lt, xor_lt, mul-lt, div_below, mod_below}
use Rattle.std.proofs.Math.Nat.{div-le_self, mod-le}
use Rattle.instruction_model.specs.Word.{as_word}
use Rattle.instruction_model.specs.Word as word
use Rattle.instruction_model.specs.declared.instruction.ImmOp.{ImmOp}
use Rattle.instruction_model.specs.declared.instruction.ImmOp.TheVariants.{Addi, Slti, Sltiu, Xori, Ori, Andi, Slli, Srli, Srai}
use Rattle.instruction_model.specs.declared.instruction.ImmWOp.{ImmWOp}
use Rattle.instruction_model.specs.declared.instruction.ImmWOp.TheVariants.{Addiw, Slliw, Srliw, Sraiw}
use Rattle.instruction_model.specs.declared.instruction.LoadOp.{LoadOp}
use Rattle.instruction_model.specs.declared.instruction.LoadOp.TheVariants.{Lb, Lh, Lw, Ld, Lbu, Lhu, Lwu}
use Rattle.instruction_model.specs.declared.instruction.RegOp.{RegOp}
use Rattle.instruction_model.specs.declared.instruction.RegOp.TheVariants.{Add, Sub, Sll, Slt, Sltu, Xor, Srl, Sra, Or, And, Mul, Mulh, Mulhsu, Mulhu, Div, Divu, Rem, Remu}
use Rattle.instruction_model.specs.declared.instruction.RegWOp.{RegWOp}
use Rattle.instruction_model.specs.declared.instruction.RegWOp.TheVariants.{Addw, Subw, Sllw, Srlw, Sraw, Mulw, Divw, Divuw, Remw, Remuw}
use Rattle.machine_model.specs.Machine.{little_endian, bytes_at, low_bytes, with_bytes, address, distance}
use Rattle.machine_model.specs.Instruction.{imm_value, imm_w_value, reg_value, reg_w_value, upper_value, load_size, load_value}
use Rattle.machine_model.specs.Valid.{AreBytes}
use Rattle.machine_model.proofs.Ranges.{pow_more}

-- ---- operations

pub as_word-lt : (z : ℤ) → as_word z < 2 ^ 64
as_word-lt (pos n) = omega arith
as_word-lt (negsuc n) = omega arith

-- either of two words
pub either-lt : (test : Bool) (limit x y : ℕ) → x < limit → y < limit →
    (if test then x else y) < limit
either-lt true limit x y p q = p
either-lt false limit x y p q = q

from_bool-lt : (b : Bool) → from_bool b < 2 ^ 64
from_bool-lt true = omega arith
from_bool-lt false = omega arith

left_over : (n k : ℕ) → n % 2 ^ k < 2 ^ k
left_over n k = mod_below n (2 ^ k) (pow_pos k)

pub add-lt : (a b : ℕ) → word.add a b < 2 ^ 64
add-lt a b = omega arith

sll-lt : (a b : ℕ) → word.sll a b < 2 ^ 64
sll-lt a b = left_over (a * 2 ^ (b % 64)) 64

srl-lt : (a b : ℕ) → a < 2 ^ 64 → word.srl a b < 2 ^ 64
srl-lt a b h = omega (arith, shr_le a (b % 64))

and-lt : (a b : ℕ) → a < 2 ^ 64 → word.and a b < 2 ^ 64
and-lt a b h = omega (arith, and_le_l a b)

high_product : (k a b : ℕ) → a < 2 ^ k → b < 2 ^ k → a * b / 2 ^ k < 2 ^ k
high_product k a b p q =
    div_below (a * b) (2 ^ k) (2 ^ k) (pow_pos k) (mul-lt a b (2 ^ k) (2 ^ k) p q)

quotient-lt : (limit a b : ℕ) → a < limit → a / b < limit
quotient-lt limit a b h = omega (arith, div-le_self a b)

remainder-lt : (limit a b : ℕ) → a < limit → a % b < limit
remainder-lt limit a b h = omega (arith, mod-le a b)

div-lt : (a b : ℕ) → word.div a b < 2 ^ 64
div-lt a b = either-lt (b == 0) (2 ^ 64) _ _ (omega arith) (as_word-lt _)

divu-lt : (a b : ℕ) → a < 2 ^ 64 → word.divu a b < 2 ^ 64
divu-lt a b h = either-lt (b == 0) (2 ^ 64) _ _ (omega arith) (quotient-lt (2 ^ 64) a b h)

rem-lt : (a b : ℕ) → a < 2 ^ 64 → word.rem a b < 2 ^ 64
rem-lt a b h = either-lt (b == 0) (2 ^ 64) _ _ h (as_word-lt _)

remu-lt : (a b : ℕ) → a < 2 ^ 64 → word.remu a b < 2 ^ 64
remu-lt a b h = either-lt (b == 0) (2 ^ 64) _ _ h (remainder-lt (2 ^ 64) a b h)

divw-lt : (a b : ℕ) → word.divw a b < 2 ^ 64
divw-lt a b = either-lt (word.low b == 0) (2 ^ 64) _ _ (omega arith) (as_word-lt _)

divuw-lt : (a b : ℕ) → word.divuw a b < 2 ^ 64
divuw-lt a b = either-lt (word.low b == 0) (2 ^ 64) _ _ (omega arith) (as_word-lt _)

remw-lt : (a b : ℕ) → word.remw a b < 2 ^ 64
remw-lt a b = either-lt (word.low b == 0) (2 ^ 64) _ _ (as_word-lt _) (as_word-lt _)

remuw-lt : (a b : ℕ) → word.remuw a b < 2 ^ 64
remuw-lt a b = either-lt (word.low b == 0) (2 ^ 64) _ _ (as_word-lt _) (as_word-lt _)

-- ---- values

pub reg_value-lt : (op : RegOp) (a b : ℕ) → a < 2 ^ 64 → b < 2 ^ 64 → reg_value op a b < 2 ^ 64
reg_value-lt Add a b p q = add-lt a b
reg_value-lt Sub a b p q = as_word-lt _
reg_value-lt Sll a b p q = sll-lt a b
reg_value-lt Slt a b p q = from_bool-lt _
reg_value-lt Sltu a b p q = from_bool-lt _
reg_value-lt Xor a b p q = xor_lt 64 a b p q
reg_value-lt Srl a b p q = srl-lt a b p
reg_value-lt Sra a b p q = as_word-lt _
reg_value-lt Or a b p q = or_lt 64 a b p q
reg_value-lt And a b p q = and-lt a b p
reg_value-lt Mul a b p q = left_over (a * b) 64
reg_value-lt Mulh a b p q = as_word-lt _
reg_value-lt Mulhsu a b p q = as_word-lt _
reg_value-lt Mulhu a b p q = high_product 64 a b p q
reg_value-lt Div a b p q = div-lt a b
reg_value-lt Divu a b p q = divu-lt a b p
reg_value-lt Rem a b p q = rem-lt a b p
reg_value-lt Remu a b p q = remu-lt a b p

pub reg_w_value-lt : (op : RegWOp) (a b : ℕ) → reg_w_value op a b < 2 ^ 64
reg_w_value-lt Addw a b = as_word-lt _
reg_w_value-lt Subw a b = as_word-lt _
reg_w_value-lt Sllw a b = as_word-lt _
reg_w_value-lt Srlw a b = as_word-lt _
reg_w_value-lt Sraw a b = as_word-lt _
reg_w_value-lt Mulw a b = as_word-lt _
reg_w_value-lt Divw a b = divw-lt a b
reg_w_value-lt Divuw a b = divuw-lt a b
reg_w_value-lt Remw a b = remw-lt a b
reg_w_value-lt Remuw a b = remuw-lt a b

pub imm_value-lt : (op : ImmOp) (a : ℕ) (imm : ℤ) → a < 2 ^ 64 → imm_value op a imm < 2 ^ 64
imm_value-lt Addi a imm p = add-lt a (as_word imm)
imm_value-lt Slti a imm p = from_bool-lt _
imm_value-lt Sltiu a imm p = from_bool-lt _
imm_value-lt Xori a imm p = xor_lt 64 a (as_word imm) p (as_word-lt imm)
imm_value-lt Ori a imm p = or_lt 64 a (as_word imm) p (as_word-lt imm)
imm_value-lt Andi a imm p = and-lt a (as_word imm) p
imm_value-lt Slli a imm p = sll-lt a (as_word imm)
imm_value-lt Srli a imm p = srl-lt a (as_word imm) p
imm_value-lt Srai a imm p = as_word-lt _

pub imm_w_value-lt : (op : ImmWOp) (a : ℕ) (imm : ℤ) → imm_w_value op a imm < 2 ^ 64
imm_w_value-lt Addiw a imm = as_word-lt _
imm_w_value-lt Slliw a imm = as_word-lt _
imm_w_value-lt Srliw a imm = as_word-lt _
imm_w_value-lt Sraiw a imm = as_word-lt _

pub upper_value-lt : (n : ℕ) → upper_value n < 2 ^ 64
upper_value-lt n = as_word-lt _

pub load_value-lt : (op : LoadOp) (n : ℕ) → n < 2 ^ (8 * load_size op) → load_value op n < 2 ^ 64
load_value-lt Lb n h = as_word-lt _
load_value-lt Lh n h = as_word-lt _
load_value-lt Lw n h = as_word-lt _
load_value-lt Ld n h = h
load_value-lt Lbu n h = omega arith
load_value-lt Lhu n h = omega arith
load_value-lt Lwu n h = omega arith

-- ---- bytes

-- so many bytes spell a number of so many
pub little_endian-lt : (bytes : List ℕ) → AreBytes bytes →
    little_endian bytes < 2 ^ (8 * length bytes)
little_endian-lt [] h = omega arith
little_endian-lt (b ∷ bs) h =
    let first = All-head (λ byte. byte < 2 ^ 8) b bs h in
    let rest = little_endian-lt bs (All-tail (λ byte. byte < 2 ^ 8) b bs h) in
    let e = pow_more (length bs) in
    omega arith

pub bytes_at-bytes : (memory : ℕ → ℕ) (at n : ℕ) → ((a : ℕ) → memory a < 2 ^ 8) →
    AreBytes (bytes_at memory at n)
unfolding bytes_at
bytes_at-bytes memory at zero h = All-nil (λ byte. byte < 2 ^ 8)
bytes_at-bytes memory at (suc n) h =
    All-push (λ byte. byte < 2 ^ 8) (bytes_at memory at n) (memory (address at n))
    (bytes_at-bytes memory at n h) (h (address at n))

pub low_bytes-bytes : (n v : ℕ) → AreBytes (low_bytes n v)
unfolding low_bytes
low_bytes-bytes zero v = All-nil (λ byte. byte < 2 ^ 8)
low_bytes-bytes (suc n) v =
    All-cons (λ byte. byte < 2 ^ 8) (v % 2 ^ 8) (low_bytes n (v / 2 ^ 8)) (omega arith)
    (low_bytes-bytes n (v / 2 ^ 8))

-- a byte of a list, or 0 past its end
pub byte-lt : (bytes : List ℕ) (k : ℕ) → AreBytes bytes → slice_index bytes k < 2 ^ 8
byte-lt bytes k h =
    elim (cases_lt k (length bytes)) [
      | inl lt ↦ h k 0 lt
      | inr le ↦ (let e = get_or_past bytes k 0 le in omega arith)
    ]

pub with_bytes-lt : (at : ℕ) (bytes : List ℕ) (memory : ℕ → ℕ) → AreBytes bytes →
    ((a : ℕ) → memory a < 2 ^ 8) → (a : ℕ) → with_bytes at bytes memory a < 2 ^ 8
with_bytes-lt at bytes memory h each a =
    either-lt _ (2 ^ 8) (slice_index bytes (distance at a)) (memory a)
    (byte-lt bytes (distance at a) h) (each a)
