-- A word is read as an instruction exactly where it is that instruction's word.
use Rattle.std.proofs.Common.{◌≡◌, ℕ, ◌+◌, ◌*◌, ◌^◌, ◌<◌, true, false, cond, refl, subst, arith}
use Rattle.std.specs.Prelude.{◌==◌, Option, Some, None, option_map}
use Rattle.std.proofs.lemmas.Option.{same_Some, none-some}
use Rattle.std.proofs.lemmas.Bool.Decides.{Decides-eqb}
use Rattle.instruction_model.specs.InstructionWord.{bits, IsWordOf}
use Rattle.instruction_model.specs.declared.instruction.BranchOp.{BranchOp}
use Rattle.instruction_model.specs.declared.instruction.LoadOp.{LoadOp}
use Rattle.instruction_model.specs.declared.instruction.StoreOp.{StoreOp}
use Rattle.instruction_model.specs.declared.instruction.ImmOp.{ImmOp}
use Rattle.instruction_model.specs.declared.instruction.RegOp.{RegOp}
use Rattle.instruction_model.specs.declared.instruction.ImmWOp.{ImmWOp}
use Rattle.instruction_model.specs.declared.instruction.RegWOp.{RegWOp}
use Rattle.instruction_model.specs.declared.instruction.Inst.{Inst}
use Rattle.instruction_model.specs.declared.instruction.Inst.TheVariants.{Lui, Auipc, Jal, Jalr, Branch, Load, Store, OpImm, Op, OpImmW, OpW, Fence, Ecall, Ebreak}
use Rattle.instruction_model.proofs.Fields.{modulo-signed_12, fits-signed_12, modulo-signed_13, offset-signed_13, modulo-signed_21, offset-signed_21}
use Rattle.instruction_model.proofs.Immediates.{imm_of-field, imm_w_of-field}
use Rattle.instruction_model.specs.Reading.{branch_op, load_op, store_op, imm_op, reg_op, imm_w_op, reg_w_op, opcode_of, rd_of, funct3_of, rs1_of, rs2_of, i_imm, s_imm, b_offset, j_offset, imm_of, imm_w_of, jalr_of, branch_of, load_of, store_of, op_imm_of, op_of, op_imm_w_of, op_w_of, fence_of, system_of, reading}
use Rattle.instruction_model.proofs.Tables.{funct3-branch_op, funct3-load_op, funct3-store_op, funct3-imm_op, codes-reg_op, funct3-imm_w_op, codes-reg_w_op}

-- ---- what is read is the word's instruction

-- a result that came through a map or a test
by_map : {A : Type 0} (w : ℕ) (f : A → Inst) (o : Option A) (v : Inst) → option_map f o ≡ Some v → ((a : A) → o ≡ Some a → IsWordOf w (f a)) → IsWordOf w v
by_map w f None v e k = absurd (none-some v e)
by_map w f (Some a) v e k = subst (λ u. IsWordOf w u) (same_Some (f a) v e) (k a refl)

by_test : {P : Type 0} (a b : ℕ) (x y : Option Inst) (v : Inst) → cond (a == b) x y ≡ Some v → (a ≡ b → x ≡ Some v → P) → (y ≡ Some v → P) → P
by_test {P} a b x y v e then other = elim (a == b) as (λ t. (a == b) ≡ t → cond t x y ≡ Some v → P) [ true ↦ (λ t h. then ((Decides-eqb a b).0 t) h) | false ↦ (λ t h. other h) ] refl e

by_some : (w : ℕ) (u v : Inst) → Some u ≡ Some v → IsWordOf w u → IsWordOf w v
by_some w u v e h = subst (λ x. IsWordOf w x) (same_Some u v e) h

module _ (w : ℕ) (w_fits : w < 2 ^ 32) where
  lui-sound : opcode_of w ≡ 0x37 → IsWordOf w (Lui (rd_of w) (bits w 31 12))
  lui-sound o = ((omega arith, omega arith), omega arith)

  auipc-sound : opcode_of w ≡ 0x17 → IsWordOf w (Auipc (rd_of w) (bits w 31 12))
  auipc-sound o = ((omega arith, omega arith), omega arith)

  jal-sound : opcode_of w ≡ 0x6f → IsWordOf w (Jal (rd_of w) (j_offset w))
  jal-sound o =
      let n = bits w 30 21 * 2 + bits w 20 20 * 2 ^ 11 + bits w 19 12 * 2 ^ 12 + bits w 31 31 * 2 ^ 20 in
      let m = modulo-signed_21 n (omega arith) in
      ((omega arith, offset-signed_21 n (omega arith) (omega arith)), rw m (omega arith))

  jalr-sound : opcode_of w ≡ 0x67 → funct3_of w ≡ 0 → IsWordOf w (Jalr (rd_of w) (rs1_of w) (i_imm w))
  jalr-sound o f =
      let n = bits w 31 20 in
      ((omega arith, omega arith, fits-signed_12 n (omega arith)), rw (modulo-signed_12 n (omega arith)) (omega arith))

  branch-sound : opcode_of w ≡ 0x63 → (op : BranchOp) → branch_op (funct3_of w) ≡ Some op → IsWordOf w (Branch op (rs1_of w) (rs2_of w) (b_offset w))
  branch-sound o op e =
      let n = bits w 11 8 * 2 + bits w 30 25 * 2 ^ 5 + bits w 7 7 * 2 ^ 11 + bits w 31 31 * 2 ^ 12 in
      let m = modulo-signed_13 n (omega arith) in
      let f = funct3-branch_op (funct3_of w) op e in
      ((omega arith, omega arith, offset-signed_13 n (omega arith) (omega arith)), rw (m, f) (omega arith))

  load-sound : opcode_of w ≡ 0x03 → (op : LoadOp) → load_op (funct3_of w) ≡ Some op → IsWordOf w (Load op (rd_of w) (rs1_of w) (i_imm w))
  load-sound o op e =
      let n = bits w 31 20 in
      let f = funct3-load_op (funct3_of w) op e in
      ((omega arith, omega arith, fits-signed_12 n (omega arith)), rw (modulo-signed_12 n (omega arith), f) (omega arith))

  store-sound : opcode_of w ≡ 0x23 → (op : StoreOp) → store_op (funct3_of w) ≡ Some op → IsWordOf w (Store op (rs1_of w) (rs2_of w) (s_imm w))
  store-sound o op e =
      let n = bits w 11 7 + bits w 31 25 * 2 ^ 5 in
      let m = modulo-signed_12 n (omega arith) in
      let f = funct3-store_op (funct3_of w) op e in
      ((omega arith, omega arith, fits-signed_12 n (omega arith)), rw (m, f) (omega arith))

  op_imm-sound : opcode_of w ≡ 0x13 → (op : ImmOp) → imm_op (funct3_of w) (bits w 31 26) ≡ Some op → IsWordOf w (OpImm op (rd_of w) (rs1_of w) (imm_of op w))
  op_imm-sound o op e =
      let f = funct3-imm_op (funct3_of w) (bits w 31 26) op e in
      let i = imm_of-field op w e in
      ((omega arith, omega arith, i.1), omega (arith, f, i.0))

  op-sound : opcode_of w ≡ 0x33 → (op : RegOp) → reg_op (funct3_of w) (bits w 31 25) ≡ Some op → IsWordOf w (Op op (rd_of w) (rs1_of w) (rs2_of w))
  op-sound o op e =
      let f = codes-reg_op (funct3_of w) (bits w 31 25) op e in
      ((omega arith, omega arith, omega arith), omega (arith, f.0, f.1))

  op_imm_w-sound : opcode_of w ≡ 0x1b → (op : ImmWOp) → imm_w_op (funct3_of w) (bits w 31 25) ≡ Some op → IsWordOf w (OpImmW op (rd_of w) (rs1_of w) (imm_w_of op w))
  op_imm_w-sound o op e =
      let f = funct3-imm_w_op (funct3_of w) (bits w 31 25) op e in
      let i = imm_w_of-field op w e in
      ((omega arith, omega arith, i.1), omega (arith, f, i.0))

  op_w-sound : opcode_of w ≡ 0x3b → (op : RegWOp) → reg_w_op (funct3_of w) (bits w 31 25) ≡ Some op → IsWordOf w (OpW op (rd_of w) (rs1_of w) (rs2_of w))
  op_w-sound o op e =
      let f = codes-reg_w_op (funct3_of w) (bits w 31 25) op e in
      ((omega arith, omega arith, omega arith), omega (arith, f.0, f.1))

  fence-sound : opcode_of w ≡ 0x0f → funct3_of w ≡ 0 → IsWordOf w (Fence (rd_of w) (rs1_of w) (bits w 31 20))
  fence-sound o f = ((omega arith, omega arith, omega arith), omega arith)

pub reading-sound : (w : ℕ) (v : Inst) → w < 2 ^ 32 → reading w ≡ Some v → IsWordOf w v
reading-sound w v h e =
    let x = opcode_of w in
    by_test x 0x03 (load_of w) _ v e (λ o e. by_map w _ (load_op (funct3_of w)) v e (load-sound w h o)) (λ e.
    by_test x 0x0f (fence_of w) _ v e (λ o e. by_test (funct3_of w) 0 _ None v e (λ f e. by_some w _ v e (fence-sound w h o f)) (λ e. absurd (none-some v e))) (λ e.
    by_test x 0x13 (op_imm_of w) _ v e (λ o e. by_map w _ (imm_op (funct3_of w) (bits w 31 26)) v e (op_imm-sound w h o)) (λ e.
    by_test x 0x17 _ _ v e (λ o e. by_some w _ v e (auipc-sound w h o)) (λ e.
    by_test x 0x1b (op_imm_w_of w) _ v e (λ o e. by_map w _ (imm_w_op (funct3_of w) (bits w 31 25)) v e (op_imm_w-sound w h o)) (λ e.
    by_test x 0x23 (store_of w) _ v e (λ o e. by_map w _ (store_op (funct3_of w)) v e (store-sound w h o)) (λ e.
    by_test x 0x33 (op_of w) _ v e (λ o e. by_map w _ (reg_op (funct3_of w) (bits w 31 25)) v e (op-sound w h o)) (λ e.
    by_test x 0x37 _ _ v e (λ o e. by_some w _ v e (lui-sound w h o)) (λ e.
    by_test x 0x3b (op_w_of w) _ v e (λ o e. by_map w _ (reg_w_op (funct3_of w) (bits w 31 25)) v e (op_w-sound w h o)) (λ e.
    by_test x 0x63 (branch_of w) _ v e (λ o e. by_map w _ (branch_op (funct3_of w)) v e (branch-sound w h o)) (λ e.
    by_test x 0x67 (jalr_of w) _ v e (λ o e. by_test (funct3_of w) 0 _ None v e (λ f e. by_some w _ v e (jalr-sound w h o f)) (λ e. absurd (none-some v e))) (λ e.
    by_test x 0x6f _ _ v e (λ o e. by_some w _ v e (jal-sound w h o)) (λ e.
    by_test x 0x73 (system_of w) None v e (λ o e. by_test w 0x00000073 _ _ v e (λ i e. by_some w Ecall v e (tt, i)) (λ e. by_test w 0x00100073 _ None v e (λ i e. by_some w Ebreak v e (tt, i)) (λ e. absurd (none-some v e)))) (λ e.
    absurd (none-some v e))))))))))))))
