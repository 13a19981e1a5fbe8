-- The word of an instruction is read as that instruction, and as no other.
use Rattle.std.proofs.Common.{◌≡◌, ℕ, ◌+◌, ◌*◌, ◌%◌, ◌^◌, ◌<◌, Option, None, refl, sym, ◌∙◌, ap, arith}
use Rattle.std.specs.Prelude.{ℤ, Some}
use Rattle.std.proofs.lemmas.Option.{same_Some}
use Rattle.instruction_model.specs.Word.{modulo_two_to}
use Rattle.instruction_model.specs.InstructionWord.{bits, i_type, r_type, b_type, j_type, IsWordOf, Decodes, branch_funct3, load_funct3, store_funct3, imm_funct3, imm_field, reg_funct3, reg_funct7, imm_w_funct3, imm_w_field, reg_w_funct3, reg_w_funct7}
use Rattle.instruction_model.specs.declared.instruction.BranchOp.{BranchOp}
use Rattle.instruction_model.specs.declared.instruction.LoadOp.{LoadOp}
use Rattle.instruction_model.specs.declared.instruction.StoreOp.{StoreOp}
use Rattle.instruction_model.specs.declared.instruction.ImmOp.{ImmOp}
use Rattle.instruction_model.specs.declared.instruction.RegOp.{RegOp}
use Rattle.instruction_model.specs.declared.instruction.ImmWOp.{ImmWOp}
use Rattle.instruction_model.specs.declared.instruction.RegWOp.{RegWOp}
use Rattle.instruction_model.specs.declared.instruction.Inst.{Inst}
use Rattle.instruction_model.specs.declared.instruction.Inst.TheVariants.{Lui, Auipc, Jal, Jalr, Branch, Load, Store, OpImm, Op, OpImmW, OpW, Fence, Ecall, Ebreak}
use Rattle.instruction_model.proofs.Fields.{signed-modulo_12, modulo-lt_12, signed-modulo_13, modulo-lt_13, even-modulo_13, signed-modulo_21, modulo-lt_21, even-modulo_21}
use Rattle.instruction_model.proofs.Immediates.{imm_field-lt, imm_field-read, imm_w_field-lt, imm_w_field-read}
use Rattle.instruction_model.specs.Reading.{opcode_of, rd_of, funct3_of, rs1_of, rs2_of, by_opcode, reading}
use Rattle.instruction_model.proofs.Soundness.{reading-sound}
use Rattle.instruction_model.proofs.Tables.{branch_op-funct3, load_op-funct3, store_op-funct3, imm_op-funct3, reg_op-codes, imm_w_op-funct3, reg_w_op-codes}

-- ---- one lemma an opcode

lui-read : (w rd n : ℕ) → IsWordOf w (Lui rd n) → reading w ≡ Some (Lui rd n)
lui-read w rd n h =
    let o : opcode_of w ≡ 0x37 = omega arith in
    let d : rd_of w ≡ rd = omega arith in
    let i : bits w 31 12 ≡ n = omega arith in
    ap (λ x. by_opcode x w) o ∙ rw (d, i)

auipc-read : (w rd n : ℕ) → IsWordOf w (Auipc rd n) → reading w ≡ Some (Auipc rd n)
auipc-read w rd n h =
    let o : opcode_of w ≡ 0x17 = omega arith in
    let d : rd_of w ≡ rd = omega arith in
    let i : bits w 31 12 ≡ n = omega arith in
    ap (λ x. by_opcode x w) o ∙ rw (d, i)

j_offset-read : (w rd n : ℕ) → rd < 32 → n < 2 ^ 21 → n % 2 ≡ 0 → w ≡ j_type 0x6f rd n → bits w 30 21 * 2 + bits w 20 20 * 2 ^ 11 + bits w 19 12 * 2 ^ 12 + bits w 31 31 * 2 ^ 20 ≡ n
j_offset-read w rd n d fits even h = omega arith

jal-read : (w rd : ℕ) (offset : ℤ) → IsWordOf w (Jal rd offset) → reading w ≡ Some (Jal rd offset)
jal-read w rd offset h =
    let m = modulo-lt_21 offset in
    let o : opcode_of w ≡ 0x6f = omega (arith, m) in
    let d : rd_of w ≡ rd = omega (arith, m) in
    let i = j_offset-read w rd (modulo_two_to 21 offset) h.0.0 m (even-modulo_21 offset h.0.1) h.1 in
    ap (λ x. by_opcode x w) o ∙ rw (d, i, signed-modulo_21 offset h.0.1.0)

b_offset-read : (w f rs1 rs2 n : ℕ) → f < 2 ^ 3 → rs1 < 32 → rs2 < 32 → n < 2 ^ 13 → n % 2 ≡ 0 → w ≡ b_type 0x63 f rs1 rs2 n → bits w 11 8 * 2 + bits w 30 25 * 2 ^ 5 + bits w 7 7 * 2 ^ 11 + bits w 31 31 * 2 ^ 12 ≡ n
b_offset-read w f rs1 rs2 n f_fits a b fits even h = omega arith

branch-read : (w : ℕ) (op : BranchOp) (rs1 rs2 : ℕ) (offset : ℤ) → IsWordOf w (Branch op rs1 rs2 offset) → reading w ≡ Some (Branch op rs1 rs2 offset)
branch-read w op rs1 rs2 offset h =
    let m = modulo-lt_13 offset in
    let c = branch_op-funct3 op in
    let o : opcode_of w ≡ 0x63 = omega (arith, m, c.0) in
    let f : funct3_of w ≡ branch_funct3 op = omega (arith, m, c.0) in
    let a : rs1_of w ≡ rs1 = omega (arith, m, c.0) in
    let b : rs2_of w ≡ rs2 = omega (arith, m, c.0) in
    let i = b_offset-read w (branch_funct3 op) rs1 rs2 (modulo_two_to 13 offset) c.0 h.0.0 h.0.1 m (even-modulo_13 offset h.0.2) h.1 in
    ap (λ x. by_opcode x w) o ∙ rw (f, c.1, a, b, i, signed-modulo_13 offset h.0.2.0)

-- ---- words with an immediate in bits 31..20

i_fields : (w o rd f rs1 n : ℕ) → o < 2 ^ 7 → rd < 2 ^ 5 → f < 2 ^ 3 → rs1 < 2 ^ 5 → n < 2 ^ 12 → w ≡ i_type o rd f rs1 n → (opcode_of w ≡ o) × (rd_of w ≡ rd) × (funct3_of w ≡ f) × (rs1_of w ≡ rs1) × (bits w 31 20 ≡ n)
i_fields w o rd f rs1 n o_fits rd_fits f_fits rs1_fits n_fits h = (omega arith, omega arith, omega arith, omega arith, omega arith)

jalr-read : (w rd rs1 : ℕ) (imm : ℤ) → IsWordOf w (Jalr rd rs1 imm) → reading w ≡ Some (Jalr rd rs1 imm)
jalr-read w rd rs1 imm h =
    let i = i_fields w 0x67 rd 0 rs1 (modulo_two_to 12 imm) (omega arith) h.0.0 (omega arith) h.0.1 (modulo-lt_12 imm) h.1 in
    ap (λ x. by_opcode x w) i.0 ∙ rw (i.2, i.1, i.3, i.4, signed-modulo_12 imm h.0.2)

load-read : (w : ℕ) (op : LoadOp) (rd rs1 : ℕ) (imm : ℤ) → IsWordOf w (Load op rd rs1 imm) → reading w ≡ Some (Load op rd rs1 imm)
load-read w op rd rs1 imm h =
    let c = load_op-funct3 op in
    let i = i_fields w 0x03 rd (load_funct3 op) rs1 (modulo_two_to 12 imm) (omega arith) h.0.0 c.0 h.0.1 (modulo-lt_12 imm) h.1 in
    ap (λ x. by_opcode x w) i.0 ∙ rw (i.2, c.1, i.1, i.3, i.4, signed-modulo_12 imm h.0.2)

op_imm-read : (w : ℕ) (op : ImmOp) (rd rs1 : ℕ) (imm : ℤ) → IsWordOf w (OpImm op rd rs1 imm) → reading w ≡ Some (OpImm op rd rs1 imm)
op_imm-read w op rd rs1 imm h =
    let i = i_fields w 0x13 rd (imm_funct3 op) rs1 (imm_field op imm) (omega arith) h.0.0 (imm_op-funct3 op) h.0.1 (imm_field-lt op imm) h.1 in
    let r = imm_field-read op imm w h.0.2 i.4 in
    ap (λ x. by_opcode x w) i.0 ∙ rw (i.2, r.0, i.1, i.3, r.1)

op_imm_w-read : (w : ℕ) (op : ImmWOp) (rd rs1 : ℕ) (imm : ℤ) → IsWordOf w (OpImmW op rd rs1 imm) → reading w ≡ Some (OpImmW op rd rs1 imm)
op_imm_w-read w op rd rs1 imm h =
    let i = i_fields w 0x1b rd (imm_w_funct3 op) rs1 (imm_w_field op imm) (omega arith) h.0.0 (imm_w_op-funct3 op) h.0.1 (imm_w_field-lt op imm) h.1 in
    let r = imm_w_field-read op imm w h.0.2 i.4 in
    ap (λ x. by_opcode x w) i.0 ∙ rw (i.2, r.0, i.1, i.3, r.1)

fence-read : (w rd rs1 n : ℕ) → IsWordOf w (Fence rd rs1 n) → reading w ≡ Some (Fence rd rs1 n)
fence-read w rd rs1 n h =
    let i = i_fields w 0x0f rd 0 rs1 n (omega arith) h.0.0 (omega arith) h.0.1 h.0.2 h.1 in
    ap (λ x. by_opcode x w) i.0 ∙ rw (i.2, i.1, i.3, i.4)

-- ---- words of two registers

r_fields : (w o rd f rs1 rs2 s : ℕ) → o < 2 ^ 7 → rd < 2 ^ 5 → f < 2 ^ 3 → rs1 < 2 ^ 5 → rs2 < 2 ^ 5 → s < 2 ^ 7 → w ≡ r_type o rd f rs1 rs2 s → (opcode_of w ≡ o) × (rd_of w ≡ rd) × (funct3_of w ≡ f) × (rs1_of w ≡ rs1) × (rs2_of w ≡ rs2) × (bits w 31 25 ≡ s)
r_fields w o rd f rs1 rs2 s o_fits rd_fits f_fits rs1_fits rs2_fits s_fits h = (omega arith, omega arith, omega arith, omega arith, omega arith, omega arith)

op-read : (w : ℕ) (op : RegOp) (rd rs1 rs2 : ℕ) → IsWordOf w (Op op rd rs1 rs2) → reading w ≡ Some (Op op rd rs1 rs2)
op-read w op rd rs1 rs2 h =
    let c = reg_op-codes op in
    let i = r_fields w 0x33 rd (reg_funct3 op) rs1 rs2 (reg_funct7 op) (omega arith) h.0.0 c.0 h.0.1 h.0.2 c.1 h.1 in
    ap (λ x. by_opcode x w) i.0 ∙ rw (i.2, i.5, c.2, i.1, i.3, i.4)

op_w-read : (w : ℕ) (op : RegWOp) (rd rs1 rs2 : ℕ) → IsWordOf w (OpW op rd rs1 rs2) → reading w ≡ Some (OpW op rd rs1 rs2)
op_w-read w op rd rs1 rs2 h =
    let c = reg_w_op-codes op in
    let i = r_fields w 0x3b rd (reg_w_funct3 op) rs1 rs2 (reg_w_funct7 op) (omega arith) h.0.0 c.0 h.0.1 h.0.2 c.1 h.1 in
    ap (λ x. by_opcode x w) i.0 ∙ rw (i.2, i.5, c.2, i.1, i.3, i.4)

store-read : (w : ℕ) (op : StoreOp) (rs1 rs2 : ℕ) (imm : ℤ) → IsWordOf w (Store op rs1 rs2 imm) → reading w ≡ Some (Store op rs1 rs2 imm)
store-read w op rs1 rs2 imm h =
    let c = store_op-funct3 op in
    let n = modulo_two_to 12 imm in
    let m = modulo-lt_12 imm in
    let i = r_fields w 0x23 (bits n 4 0) (store_funct3 op) rs1 rs2 (bits n 11 5) (omega arith) (omega arith) c.0 h.0.0 h.0.1 (omega arith) h.1 in
    let j : bits w 11 7 + bits w 31 25 * 2 ^ 5 ≡ n = omega (arith, m, i.1, i.5) in
    ap (λ x. by_opcode x w) i.0 ∙ rw (i.2, c.1, i.3, i.4, j, signed-modulo_12 imm h.0.2)

-- ---- every instruction

pub reading-word : (w : ℕ) (v : Inst) → IsWordOf w v → reading w ≡ Some v
reading-word w (Lui rd n) h = lui-read w rd n h
reading-word w (Auipc rd n) h = auipc-read w rd n h
reading-word w (Jal rd offset) h = jal-read w rd offset h
reading-word w (Jalr rd rs1 imm) h = jalr-read w rd rs1 imm h
reading-word w (Branch op rs1 rs2 offset) h = branch-read w op rs1 rs2 offset h
reading-word w (Load op rd rs1 imm) h = load-read w op rd rs1 imm h
reading-word w (Store op rs1 rs2 imm) h = store-read w op rs1 rs2 imm h
reading-word w (OpImm op rd rs1 imm) h = op_imm-read w op rd rs1 imm h
reading-word w (Op op rd rs1 rs2) h = op-read w op rd rs1 rs2 h
reading-word w (OpImmW op rd rs1 imm) h = op_imm_w-read w op rd rs1 imm h
reading-word w (OpW op rd rs1 rs2) h = op_w-read w op rd rs1 rs2 h
reading-word w (Fence rd rs1 n) h = fence-read w rd rs1 n h
reading-word w Ecall h = rw h.1
reading-word w Ebreak h = rw h.1

-- two instructions of one word are one
pub one_reading : (w : ℕ) (u v : Inst) → IsWordOf w u → IsWordOf w v → u ≡ v
one_reading w u v h k = same_Some u v (sym (reading-word w u h) ∙ reading-word w v k)

decodes_as : (w : ℕ) (o : Option Inst) → w < 2 ^ 32 → reading w ≡ o → Decodes w o
decodes_as w None fits e = λ v h. let f = reading-word w v h in cc
decodes_as w (Some v) fits e = reading-sound w v fits e

-- reading gives a word's instruction, or none where the word fits no row
pub reading-decodes : (w : ℕ) → w < 2 ^ 32 → Decodes w (reading w)
reading-decodes w fits = decodes_as w (reading w) fits refl
