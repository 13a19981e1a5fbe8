-- Each table of codes, and the same table the other way round.
use Rattle.std.proofs.Common.{◌≡◌, ℕ, ◌^◌, ◌<◌, refl, arith}
use Rattle.std.specs.Prelude.{Some}
use Rattle.std.proofs.lemmas.Bool.Decides.{nat_tests}
use Rattle.instruction_model.specs.InstructionWord.{branch_funct3, load_funct3, store_funct3, imm_funct3, reg_funct3, reg_funct7, imm_w_funct3, reg_w_funct3, reg_w_funct7}
use Rattle.instruction_model.specs.Reading.{branch_op, load_op, store_op, imm_op, reg_op, imm_w_op, reg_w_op}
use Rattle.instruction_model.specs.declared.instruction.BranchOp.{BranchOp}
use Rattle.instruction_model.specs.declared.instruction.BranchOp.TheVariants.{Beq, Bne, Blt, Bge, Bltu, Bgeu}
use Rattle.instruction_model.specs.declared.instruction.LoadOp.{LoadOp}
use Rattle.instruction_model.specs.declared.instruction.LoadOp.TheVariants.{Lb, Lh, Lw, Ld, Lbu, Lhu, Lwu}
use Rattle.instruction_model.specs.declared.instruction.StoreOp.{StoreOp}
use Rattle.instruction_model.specs.declared.instruction.StoreOp.TheVariants.{Sb, Sh, Sw, Sd}
use Rattle.instruction_model.specs.declared.instruction.RegOp.{RegOp}
use Rattle.instruction_model.specs.declared.instruction.RegOp.TheVariants.{Add, Sub, Sll, Slt, Sltu, Xor, Srl, Sra, Or, And, Mul, Mulh, Mulhsu, Mulhu, Div, Divu, Rem, Remu}
use Rattle.instruction_model.specs.declared.instruction.RegWOp.{RegWOp}
use Rattle.instruction_model.specs.declared.instruction.RegWOp.TheVariants.{Addw, Subw, Sllw, Srlw, Sraw, Mulw, Divw, Divuw, Remw, Remuw}
use Rattle.instruction_model.specs.declared.instruction.ImmOp.{ImmOp}
use Rattle.instruction_model.specs.declared.instruction.ImmOp.TheVariants.{Addi, Slti, Sltiu, Xori, Ori, Andi, Slli, Srli, Srai}
use Rattle.instruction_model.specs.declared.instruction.ImmWOp.{ImmWOp}
use Rattle.instruction_model.specs.declared.instruction.ImmWOp.TheVariants.{Addiw, Slliw, Srliw, Sraiw}

-- ---- BranchOp

pub branch_op-funct3 : (op : BranchOp) → (branch_funct3 op < 2 ^ 3) × (branch_op (branch_funct3 op) ≡ Some op)
branch_op-funct3 Beq = (omega arith, refl)
branch_op-funct3 Bne = (omega arith, refl)
branch_op-funct3 Blt = (omega arith, refl)
branch_op-funct3 Bge = (omega arith, refl)
branch_op-funct3 Bltu = (omega arith, refl)
branch_op-funct3 Bgeu = (omega arith, refl)

pub funct3-branch_op : (f : ℕ) (op : BranchOp) → branch_op f ≡ Some op → branch_funct3 op ≡ f
funct3-branch_op f op e = grind (arith, nat_tests)

-- ---- LoadOp

pub load_op-funct3 : (op : LoadOp) → (load_funct3 op < 2 ^ 3) × (load_op (load_funct3 op) ≡ Some op)
load_op-funct3 Lb = (omega arith, refl)
load_op-funct3 Lh = (omega arith, refl)
load_op-funct3 Lw = (omega arith, refl)
load_op-funct3 Ld = (omega arith, refl)
load_op-funct3 Lbu = (omega arith, refl)
load_op-funct3 Lhu = (omega arith, refl)
load_op-funct3 Lwu = (omega arith, refl)

pub funct3-load_op : (f : ℕ) (op : LoadOp) → load_op f ≡ Some op → load_funct3 op ≡ f
funct3-load_op f op e = grind (arith, nat_tests)

-- ---- StoreOp

pub store_op-funct3 : (op : StoreOp) → (store_funct3 op < 2 ^ 3) × (store_op (store_funct3 op) ≡ Some op)
store_op-funct3 Sb = (omega arith, refl)
store_op-funct3 Sh = (omega arith, refl)
store_op-funct3 Sw = (omega arith, refl)
store_op-funct3 Sd = (omega arith, refl)

pub funct3-store_op : (f : ℕ) (op : StoreOp) → store_op f ≡ Some op → store_funct3 op ≡ f
funct3-store_op f op e = grind (arith, nat_tests)

-- ---- RegOp

pub reg_op-codes : (op : RegOp) → (reg_funct3 op < 2 ^ 3) × (reg_funct7 op < 2 ^ 7) × (reg_op (reg_funct3 op) (reg_funct7 op) ≡ Some op)
reg_op-codes Add = (omega arith, omega arith, refl)
reg_op-codes Sub = (omega arith, omega arith, refl)
reg_op-codes Sll = (omega arith, omega arith, refl)
reg_op-codes Slt = (omega arith, omega arith, refl)
reg_op-codes Sltu = (omega arith, omega arith, refl)
reg_op-codes Xor = (omega arith, omega arith, refl)
reg_op-codes Srl = (omega arith, omega arith, refl)
reg_op-codes Sra = (omega arith, omega arith, refl)
reg_op-codes Or = (omega arith, omega arith, refl)
reg_op-codes And = (omega arith, omega arith, refl)
reg_op-codes Mul = (omega arith, omega arith, refl)
reg_op-codes Mulh = (omega arith, omega arith, refl)
reg_op-codes Mulhsu = (omega arith, omega arith, refl)
reg_op-codes Mulhu = (omega arith, omega arith, refl)
reg_op-codes Div = (omega arith, omega arith, refl)
reg_op-codes Divu = (omega arith, omega arith, refl)
reg_op-codes Rem = (omega arith, omega arith, refl)
reg_op-codes Remu = (omega arith, omega arith, refl)

pub codes-reg_op : (f s : ℕ) (op : RegOp) → reg_op f s ≡ Some op → (reg_funct3 op ≡ f) × (reg_funct7 op ≡ s)
codes-reg_op f s op e = grind (arith, nat_tests)

-- ---- RegWOp

pub reg_w_op-codes : (op : RegWOp) → (reg_w_funct3 op < 2 ^ 3) × (reg_w_funct7 op < 2 ^ 7) × (reg_w_op (reg_w_funct3 op) (reg_w_funct7 op) ≡ Some op)
reg_w_op-codes Addw = (omega arith, omega arith, refl)
reg_w_op-codes Subw = (omega arith, omega arith, refl)
reg_w_op-codes Sllw = (omega arith, omega arith, refl)
reg_w_op-codes Srlw = (omega arith, omega arith, refl)
reg_w_op-codes Sraw = (omega arith, omega arith, refl)
reg_w_op-codes Mulw = (omega arith, omega arith, refl)
reg_w_op-codes Divw = (omega arith, omega arith, refl)
reg_w_op-codes Divuw = (omega arith, omega arith, refl)
reg_w_op-codes Remw = (omega arith, omega arith, refl)
reg_w_op-codes Remuw = (omega arith, omega arith, refl)

pub codes-reg_w_op : (f s : ℕ) (op : RegWOp) → reg_w_op f s ≡ Some op → (reg_w_funct3 op ≡ f) × (reg_w_funct7 op ≡ s)
codes-reg_w_op f s op e = grind (arith, nat_tests)

-- ---- ImmOp

pub imm_op-funct3 : (op : ImmOp) → imm_funct3 op < 2 ^ 3
imm_op-funct3 Addi = omega arith
imm_op-funct3 Slti = omega arith
imm_op-funct3 Sltiu = omega arith
imm_op-funct3 Xori = omega arith
imm_op-funct3 Ori = omega arith
imm_op-funct3 Andi = omega arith
imm_op-funct3 Slli = omega arith
imm_op-funct3 Srli = omega arith
imm_op-funct3 Srai = omega arith

pub funct3-imm_op : (f s : ℕ) (op : ImmOp) → imm_op f s ≡ Some op → imm_funct3 op ≡ f
funct3-imm_op f s op e = grind (arith, nat_tests)

pub slli-upper : (f s : ℕ) → imm_op f s ≡ Some Slli → s ≡ 0
slli-upper f s e = grind (arith, nat_tests)

pub srli-upper : (f s : ℕ) → imm_op f s ≡ Some Srli → s ≡ 0
srli-upper f s e = grind (arith, nat_tests)

pub srai-upper : (f s : ℕ) → imm_op f s ≡ Some Srai → s ≡ 16
srai-upper f s e = grind (arith, nat_tests)

-- ---- ImmWOp

pub imm_w_op-funct3 : (op : ImmWOp) → imm_w_funct3 op < 2 ^ 3
imm_w_op-funct3 Addiw = omega arith
imm_w_op-funct3 Slliw = omega arith
imm_w_op-funct3 Srliw = omega arith
imm_w_op-funct3 Sraiw = omega arith

pub funct3-imm_w_op : (f s : ℕ) (op : ImmWOp) → imm_w_op f s ≡ Some op → imm_w_funct3 op ≡ f
funct3-imm_w_op f s op e = grind (arith, nat_tests)

pub slliw-upper : (f s : ℕ) → imm_w_op f s ≡ Some Slliw → s ≡ 0
slliw-upper f s e = grind (arith, nat_tests)

pub srliw-upper : (f s : ℕ) → imm_w_op f s ≡ Some Srliw → s ≡ 0
srliw-upper f s e = grind (arith, nat_tests)

pub sraiw-upper : (f s : ℕ) → imm_w_op f s ≡ Some Sraiw → s ≡ 32
sraiw-upper f s e = grind (arith, nat_tests)
