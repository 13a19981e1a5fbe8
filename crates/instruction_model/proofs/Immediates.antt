-- The immediate of an operation, and the field that spells it.
use Rattle.std.proofs.Common.{◌≡◌, ℕ, ◌^◌, ◌<◌, refl, ap, arith}
use Rattle.std.specs.Prelude.{ℤ, pos, negsuc, Some}
use Rattle.std.proofs.lemmas.Int.{ints}
use Rattle.instruction_model.specs.Word.{modulo_two_to}
use Rattle.instruction_model.specs.InstructionWord.{bits, imm_funct3, imm_field, imm_w_funct3, imm_w_field, IsImm, IsImmW, IsAmount}
use Rattle.instruction_model.specs.declared.instruction.ImmOp.{ImmOp}
use Rattle.instruction_model.specs.declared.instruction.ImmOp.TheVariants.{Addi, Slti, Sltiu, Xori, Ori, Andi, Slli, Srli, Srai}
use Rattle.instruction_model.specs.declared.instruction.ImmWOp.{ImmWOp}
use Rattle.instruction_model.specs.declared.instruction.ImmWOp.TheVariants.{Addiw, Slliw, Srliw, Sraiw}
use Rattle.instruction_model.proofs.Fields.{modulo-signed_12, signed-modulo_12, fits-signed_12, modulo-lt_12}
use Rattle.instruction_model.specs.Reading.{imm_op, imm_w_op, imm_of, imm_w_of, funct3_of}
use Rattle.instruction_model.proofs.Tables.{slli-upper, srli-upper, srai-upper, slliw-upper, srliw-upper, sraiw-upper}

-- ---- amounts

amount-modulo_6 : (n : ℕ) (z : ℤ) → IsAmount 64 z → n ≡ modulo_two_to 6 z → pos n ≡ z
amount-modulo_6 n (pos k) h e = ap pos (omega (arith, ints))
amount-modulo_6 n (negsuc k) h e = absurd (omega (arith, ints))

amount-modulo_5 : (n : ℕ) (z : ℤ) → IsAmount 32 z → n ≡ modulo_two_to 5 z → pos n ≡ z
amount-modulo_5 n (pos k) h e = ap pos (omega (arith, ints))
amount-modulo_5 n (negsuc k) h e = absurd (omega (arith, ints))

pub modulo-lt_6 : (z : ℤ) → modulo_two_to 6 z < 2 ^ 6
modulo-lt_6 (pos n) = omega arith
modulo-lt_6 (negsuc n) = omega arith

pub modulo-lt_5 : (z : ℤ) → modulo_two_to 5 z < 2 ^ 5
modulo-lt_5 (pos n) = omega arith
modulo-lt_5 (negsuc n) = omega arith

is_amount_64 : (n : ℕ) → n < 64 → IsAmount 64 (pos n)
is_amount_64 n h = (omega (arith, ints), omega (arith, ints))

is_amount_32 : (n : ℕ) → n < 32 → IsAmount 32 (pos n)
is_amount_32 n h = (omega (arith, ints), omega (arith, ints))

-- ---- from the word to the immediate and back

pub imm_of-field : (op : ImmOp) (w : ℕ) → imm_op (funct3_of w) (bits w 31 26) ≡ Some op → (imm_field op (imm_of op w) ≡ bits w 31 20) × IsImm op (imm_of op w)
imm_of-field Addi w e = (modulo-signed_12 (bits w 31 20) (omega arith), fits-signed_12 (bits w 31 20) (omega arith))
imm_of-field Slti w e = (modulo-signed_12 (bits w 31 20) (omega arith), fits-signed_12 (bits w 31 20) (omega arith))
imm_of-field Sltiu w e = (modulo-signed_12 (bits w 31 20) (omega arith), fits-signed_12 (bits w 31 20) (omega arith))
imm_of-field Xori w e = (modulo-signed_12 (bits w 31 20) (omega arith), fits-signed_12 (bits w 31 20) (omega arith))
imm_of-field Ori w e = (modulo-signed_12 (bits w 31 20) (omega arith), fits-signed_12 (bits w 31 20) (omega arith))
imm_of-field Andi w e = (modulo-signed_12 (bits w 31 20) (omega arith), fits-signed_12 (bits w 31 20) (omega arith))
imm_of-field Slli w e = let u = slli-upper (funct3_of w) (bits w 31 26) e in (omega (arith, u), is_amount_64 (bits w 25 20) (omega arith))
imm_of-field Srli w e = let u = srli-upper (funct3_of w) (bits w 31 26) e in (omega (arith, u), is_amount_64 (bits w 25 20) (omega arith))
imm_of-field Srai w e = let u = srai-upper (funct3_of w) (bits w 31 26) e in (omega (arith, u), is_amount_64 (bits w 25 20) (omega arith))

pub imm_field-lt : (op : ImmOp) (z : ℤ) → imm_field op z < 2 ^ 12
imm_field-lt Addi z = modulo-lt_12 z
imm_field-lt Slti z = modulo-lt_12 z
imm_field-lt Sltiu z = modulo-lt_12 z
imm_field-lt Xori z = modulo-lt_12 z
imm_field-lt Ori z = modulo-lt_12 z
imm_field-lt Andi z = modulo-lt_12 z
imm_field-lt Slli z = omega (arith, modulo-lt_6 z)
imm_field-lt Srli z = omega (arith, modulo-lt_6 z)
imm_field-lt Srai z = omega (arith, modulo-lt_6 z)

-- what a word with this field in bits 31..20 is read as
pub imm_field-read : (op : ImmOp) (z : ℤ) (w : ℕ) → IsImm op z → bits w 31 20 ≡ imm_field op z → (imm_op (imm_funct3 op) (bits w 31 26) ≡ Some op) × (imm_of op w ≡ z)
imm_field-read Addi z w h e = (refl, rw e (signed-modulo_12 z h))
imm_field-read Slti z w h e = (refl, rw e (signed-modulo_12 z h))
imm_field-read Sltiu z w h e = (refl, rw e (signed-modulo_12 z h))
imm_field-read Xori z w h e = (refl, rw e (signed-modulo_12 z h))
imm_field-read Ori z w h e = (refl, rw e (signed-modulo_12 z h))
imm_field-read Andi z w h e = (refl, rw e (signed-modulo_12 z h))
imm_field-read Slli z w h e =
    let l = modulo-lt_6 z in
    let u : bits w 31 26 ≡ 0 = omega (arith, l, e) in
    let a : bits w 25 20 ≡ modulo_two_to 6 z = omega (arith, l, e) in
    (ap (imm_op 1) u, amount-modulo_6 (bits w 25 20) z h a)
imm_field-read Srli z w h e =
    let l = modulo-lt_6 z in
    let u : bits w 31 26 ≡ 0 = omega (arith, l, e) in
    let a : bits w 25 20 ≡ modulo_two_to 6 z = omega (arith, l, e) in
    (ap (imm_op 5) u, amount-modulo_6 (bits w 25 20) z h a)
imm_field-read Srai z w h e =
    let l = modulo-lt_6 z in
    let u : bits w 31 26 ≡ 16 = omega (arith, l, e) in
    let a : bits w 25 20 ≡ modulo_two_to 6 z = omega (arith, l, e) in
    (ap (imm_op 5) u, amount-modulo_6 (bits w 25 20) z h a)

-- ---- the same for the low 32 bits

pub imm_w_of-field : (op : ImmWOp) (w : ℕ) → imm_w_op (funct3_of w) (bits w 31 25) ≡ Some op → (imm_w_field op (imm_w_of op w) ≡ bits w 31 20) × IsImmW op (imm_w_of op w)
imm_w_of-field Addiw w e = (modulo-signed_12 (bits w 31 20) (omega arith), fits-signed_12 (bits w 31 20) (omega arith))
imm_w_of-field Slliw w e = let u = slliw-upper (funct3_of w) (bits w 31 25) e in (omega (arith, u), is_amount_32 (bits w 24 20) (omega arith))
imm_w_of-field Srliw w e = let u = srliw-upper (funct3_of w) (bits w 31 25) e in (omega (arith, u), is_amount_32 (bits w 24 20) (omega arith))
imm_w_of-field Sraiw w e = let u = sraiw-upper (funct3_of w) (bits w 31 25) e in (omega (arith, u), is_amount_32 (bits w 24 20) (omega arith))

pub imm_w_field-lt : (op : ImmWOp) (z : ℤ) → imm_w_field op z < 2 ^ 12
imm_w_field-lt Addiw z = modulo-lt_12 z
imm_w_field-lt Slliw z = omega (arith, modulo-lt_5 z)
imm_w_field-lt Srliw z = omega (arith, modulo-lt_5 z)
imm_w_field-lt Sraiw z = omega (arith, modulo-lt_5 z)

pub imm_w_field-read : (op : ImmWOp) (z : ℤ) (w : ℕ) → IsImmW op z → bits w 31 20 ≡ imm_w_field op z → (imm_w_op (imm_w_funct3 op) (bits w 31 25) ≡ Some op) × (imm_w_of op w ≡ z)
imm_w_field-read Addiw z w h e = (refl, rw e (signed-modulo_12 z h))
imm_w_field-read Slliw z w h e =
    let l = modulo-lt_5 z in
    let u : bits w 31 25 ≡ 0 = omega (arith, l, e) in
    let a : bits w 24 20 ≡ modulo_two_to 5 z = omega (arith, l, e) in
    (ap (imm_w_op 1) u, amount-modulo_5 (bits w 24 20) z h a)
imm_w_field-read Srliw z w h e =
    let l = modulo-lt_5 z in
    let u : bits w 31 25 ≡ 0 = omega (arith, l, e) in
    let a : bits w 24 20 ≡ modulo_two_to 5 z = omega (arith, l, e) in
    (ap (imm_w_op 5) u, amount-modulo_5 (bits w 24 20) z h a)
imm_w_field-read Sraiw z w h e =
    let l = modulo-lt_5 z in
    let u : bits w 31 25 ≡ 32 = omega (arith, l, e) in
    let a : bits w 24 20 ≡ modulo_two_to 5 z = omega (arith, l, e) in
    (ap (imm_w_op 5) u, amount-modulo_5 (bits w 24 20) z h a)
