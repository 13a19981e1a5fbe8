-- The names of operations are their mnemonics, and no directives.
use Rattle.std.proofs.Common.{◌≡◌, true, List, ℕ, length, Some, None, codes, refl}
use Rattle.std.specs.Prelude.{nat_lt}
use Rattle.std.specs.List.{list_all}
use Rattle.instruction_model.specs.declared.instruction.BranchOp.{BranchOp}
use Rattle.instruction_model.specs.declared.instruction.BranchOp.TheVariants.{Beq, Bne, Blt, Bge, Bltu, Bgeu}
use Rattle.instruction_model.specs.declared.instruction.LoadOp.{LoadOp}
use Rattle.instruction_model.specs.declared.instruction.LoadOp.TheVariants.{Lb, Lh, Lw, Ld, Lbu, Lhu}
use Rattle.instruction_model.specs.declared.instruction.LoadOp.TheVariants.{Lwu}
use Rattle.instruction_model.specs.declared.instruction.StoreOp.{StoreOp}
use Rattle.instruction_model.specs.declared.instruction.StoreOp.TheVariants.{Sb, Sh, Sw, Sd}
use Rattle.instruction_model.specs.declared.instruction.ImmOp.{ImmOp}
use Rattle.instruction_model.specs.declared.instruction.ImmOp.TheVariants.{Addi, Slti, Sltiu, Xori, Ori, Andi}
use Rattle.instruction_model.specs.declared.instruction.ImmOp.TheVariants.{Slli, Srli, Srai}
use Rattle.instruction_model.specs.declared.instruction.RegOp.{RegOp}
use Rattle.instruction_model.specs.declared.instruction.RegOp.TheVariants.{Add, Sub, Sll, Slt, Sltu, Xor}
use Rattle.instruction_model.specs.declared.instruction.RegOp.TheVariants.{Srl, Sra, Or, And, Mul, Mulh}
use Rattle.instruction_model.specs.declared.instruction.RegOp.TheVariants.{Mulhsu, Mulhu, Div, Divu, Rem, Remu}
use Rattle.instruction_model.specs.declared.instruction.ImmWOp.{ImmWOp}
use Rattle.instruction_model.specs.declared.instruction.ImmWOp.TheVariants.{Addiw, Slliw, Srliw, Sraiw}
use Rattle.instruction_model.specs.declared.instruction.RegWOp.{RegWOp}
use Rattle.instruction_model.specs.declared.instruction.RegWOp.TheVariants.{Addw, Subw, Sllw, Srlw, Sraw, Mulw}
use Rattle.instruction_model.specs.declared.instruction.RegWOp.TheVariants.{Divw, Divuw, Remw, Remuw}
use Rattle.asm_words.specs.Names.{branch_name, load_name, store_name, imm_name, reg_name, imm_w_name, reg_w_name}
use Rattle.asm_lines.specs.Statement.{directive, mnemonic}
use Rattle.asm_lines.specs.declared.mnemonic.Mnemonic.{Mnemonic}
use Rattle.asm_lines.specs.declared.mnemonic.Mnemonic.TheVariants as mnemonics

-- a first word of a line that is an instruction
pub record IsMnemonic (name : List ℕ) (m : Mnemonic) : Type 0 where
  pub above : list_all (λ b. nat_lt 44 b) name ≡ true
  pub some : nat_lt 0 (length name) ≡ true
  pub no_directive : directive name ≡ None
  pub is : mnemonic name ≡ Some m

pub lui_is : IsMnemonic (codes "lui") mnemonics.Lui
lui_is = record { above = refl; some = refl; no_directive = refl; is = refl }

pub auipc_is : IsMnemonic (codes "auipc") mnemonics.Auipc
auipc_is = record { above = refl; some = refl; no_directive = refl; is = refl }

pub jal_is : IsMnemonic (codes "jal") mnemonics.Jal
jal_is = record { above = refl; some = refl; no_directive = refl; is = refl }

pub jalr_is : IsMnemonic (codes "jalr") mnemonics.Jalr
jalr_is = record { above = refl; some = refl; no_directive = refl; is = refl }

pub fence_is : IsMnemonic (codes "fence") mnemonics.Fence
fence_is = record { above = refl; some = refl; no_directive = refl; is = refl }

pub branch_is : (op : BranchOp) → IsMnemonic (branch_name op) (mnemonics.Branch op)
branch_is Beq = record { above = refl; some = refl; no_directive = refl; is = refl }
branch_is Bne = record { above = refl; some = refl; no_directive = refl; is = refl }
branch_is Blt = record { above = refl; some = refl; no_directive = refl; is = refl }
branch_is Bge = record { above = refl; some = refl; no_directive = refl; is = refl }
branch_is Bltu = record { above = refl; some = refl; no_directive = refl; is = refl }
branch_is Bgeu = record { above = refl; some = refl; no_directive = refl; is = refl }

pub load_is : (op : LoadOp) → IsMnemonic (load_name op) (mnemonics.Load op)
load_is Lb = record { above = refl; some = refl; no_directive = refl; is = refl }
load_is Lh = record { above = refl; some = refl; no_directive = refl; is = refl }
load_is Lw = record { above = refl; some = refl; no_directive = refl; is = refl }
load_is Ld = record { above = refl; some = refl; no_directive = refl; is = refl }
load_is Lbu = record { above = refl; some = refl; no_directive = refl; is = refl }
load_is Lhu = record { above = refl; some = refl; no_directive = refl; is = refl }
load_is Lwu = record { above = refl; some = refl; no_directive = refl; is = refl }

pub store_is : (op : StoreOp) → IsMnemonic (store_name op) (mnemonics.Store op)
store_is Sb = record { above = refl; some = refl; no_directive = refl; is = refl }
store_is Sh = record { above = refl; some = refl; no_directive = refl; is = refl }
store_is Sw = record { above = refl; some = refl; no_directive = refl; is = refl }
store_is Sd = record { above = refl; some = refl; no_directive = refl; is = refl }

pub imm_is : (op : ImmOp) → IsMnemonic (imm_name op) (mnemonics.OpImm op)
imm_is Addi = record { above = refl; some = refl; no_directive = refl; is = refl }
imm_is Slti = record { above = refl; some = refl; no_directive = refl; is = refl }
imm_is Sltiu = record { above = refl; some = refl; no_directive = refl; is = refl }
imm_is Xori = record { above = refl; some = refl; no_directive = refl; is = refl }
imm_is Ori = record { above = refl; some = refl; no_directive = refl; is = refl }
imm_is Andi = record { above = refl; some = refl; no_directive = refl; is = refl }
imm_is Slli = record { above = refl; some = refl; no_directive = refl; is = refl }
imm_is Srli = record { above = refl; some = refl; no_directive = refl; is = refl }
imm_is Srai = record { above = refl; some = refl; no_directive = refl; is = refl }

pub reg_is : (op : RegOp) → IsMnemonic (reg_name op) (mnemonics.Op op)
reg_is Add = record { above = refl; some = refl; no_directive = refl; is = refl }
reg_is Sub = record { above = refl; some = refl; no_directive = refl; is = refl }
reg_is Sll = record { above = refl; some = refl; no_directive = refl; is = refl }
reg_is Slt = record { above = refl; some = refl; no_directive = refl; is = refl }
reg_is Sltu = record { above = refl; some = refl; no_directive = refl; is = refl }
reg_is Xor = record { above = refl; some = refl; no_directive = refl; is = refl }
reg_is Srl = record { above = refl; some = refl; no_directive = refl; is = refl }
reg_is Sra = record { above = refl; some = refl; no_directive = refl; is = refl }
reg_is Or = record { above = refl; some = refl; no_directive = refl; is = refl }
reg_is And = record { above = refl; some = refl; no_directive = refl; is = refl }
reg_is Mul = record { above = refl; some = refl; no_directive = refl; is = refl }
reg_is Mulh = record { above = refl; some = refl; no_directive = refl; is = refl }
reg_is Mulhsu = record { above = refl; some = refl; no_directive = refl; is = refl }
reg_is Mulhu = record { above = refl; some = refl; no_directive = refl; is = refl }
reg_is Div = record { above = refl; some = refl; no_directive = refl; is = refl }
reg_is Divu = record { above = refl; some = refl; no_directive = refl; is = refl }
reg_is Rem = record { above = refl; some = refl; no_directive = refl; is = refl }
reg_is Remu = record { above = refl; some = refl; no_directive = refl; is = refl }

pub imm_w_is : (op : ImmWOp) → IsMnemonic (imm_w_name op) (mnemonics.OpImmW op)
imm_w_is Addiw = record { above = refl; some = refl; no_directive = refl; is = refl }
imm_w_is Slliw = record { above = refl; some = refl; no_directive = refl; is = refl }
imm_w_is Srliw = record { above = refl; some = refl; no_directive = refl; is = refl }
imm_w_is Sraiw = record { above = refl; some = refl; no_directive = refl; is = refl }

pub reg_w_is : (op : RegWOp) → IsMnemonic (reg_w_name op) (mnemonics.OpW op)
reg_w_is Addw = record { above = refl; some = refl; no_directive = refl; is = refl }
reg_w_is Subw = record { above = refl; some = refl; no_directive = refl; is = refl }
reg_w_is Sllw = record { above = refl; some = refl; no_directive = refl; is = refl }
reg_w_is Srlw = record { above = refl; some = refl; no_directive = refl; is = refl }
reg_w_is Sraw = record { above = refl; some = refl; no_directive = refl; is = refl }
reg_w_is Mulw = record { above = refl; some = refl; no_directive = refl; is = refl }
reg_w_is Divw = record { above = refl; some = refl; no_directive = refl; is = refl }
reg_w_is Divuw = record { above = refl; some = refl; no_directive = refl; is = refl }
reg_w_is Remw = record { above = refl; some = refl; no_directive = refl; is = refl }
reg_w_is Remuw = record { above = refl; some = refl; no_directive = refl; is = refl }
