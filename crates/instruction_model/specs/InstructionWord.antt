-- Which instruction a 32-bit word is: the 65 rows of RV64IM (RISC-V unprivileged manual,
-- "RV32/64G Instruction Set Listings"). A row is the fixed bits of a mnemonic, which
-- the tables of codes give, and the fields that its format leaves free.
use Rattle.std.specs.Prelude.{◌≡◌, ℕ, ◌+◌, ◌-◌, ◌*◌, ◌/◌, ◌%◌, ◌^◌, ◌<◌, ℤ, pos, negsuc, ◌≤ℤ◌}
use Rattle.std.specs.Prelude.{unsigned_abs, Option, Some, None}
use Rattle.instruction_model.specs.Word.{modulo_two_to}
use Rattle.instruction_model.specs.declared.instruction.BranchOp.{BranchOp}
use Rattle.instruction_model.specs.declared.instruction.BranchOp.TheVariants.{Beq, Bne, Blt, Bge}
use Rattle.instruction_model.specs.declared.instruction.BranchOp.TheVariants.{Bltu, Bgeu}
use Rattle.instruction_model.specs.declared.instruction.LoadOp.{LoadOp}
use Rattle.instruction_model.specs.declared.instruction.LoadOp.TheVariants.{Lb, Lh, Lw, Ld, Lbu}
use Rattle.instruction_model.specs.declared.instruction.LoadOp.TheVariants.{Lhu, Lwu}
use Rattle.instruction_model.specs.declared.instruction.StoreOp.{StoreOp}
use Rattle.instruction_model.specs.declared.instruction.StoreOp.TheVariants.{Sb, Sh, Sw, Sd}
use Rattle.instruction_model.specs.declared.instruction.ImmOp.{ImmOp}
use Rattle.instruction_model.specs.declared.instruction.ImmOp.TheVariants.{Addi, Slti, Sltiu, Xori}
use Rattle.instruction_model.specs.declared.instruction.ImmOp.TheVariants.{Ori, Andi, Slli, Srli}
use Rattle.instruction_model.specs.declared.instruction.ImmOp.TheVariants.{Srai}
use Rattle.instruction_model.specs.declared.instruction.RegOp.{RegOp}
use Rattle.instruction_model.specs.declared.instruction.RegOp.TheVariants.{Add, Sub, Sll, Slt, Sltu}
use Rattle.instruction_model.specs.declared.instruction.RegOp.TheVariants.{Xor, Srl, Sra, Or, And}
use Rattle.instruction_model.specs.declared.instruction.RegOp.TheVariants.{Mul, Mulh, Mulhsu, Mulhu}
use Rattle.instruction_model.specs.declared.instruction.RegOp.TheVariants.{Div, Divu, Rem, Remu}
use Rattle.instruction_model.specs.declared.instruction.ImmWOp.{ImmWOp}
use Rattle.instruction_model.specs.declared.instruction.ImmWOp.TheVariants.{Addiw, Slliw, Srliw}
use Rattle.instruction_model.specs.declared.instruction.ImmWOp.TheVariants.{Sraiw}
use Rattle.instruction_model.specs.declared.instruction.RegWOp.{RegWOp}
use Rattle.instruction_model.specs.declared.instruction.RegWOp.TheVariants.{Addw, Subw, Sllw, Srlw}
use Rattle.instruction_model.specs.declared.instruction.RegWOp.TheVariants.{Sraw, Mulw, Divw, Divuw}
use Rattle.instruction_model.specs.declared.instruction.RegWOp.TheVariants.{Remw, Remuw}
use Rattle.instruction_model.specs.declared.instruction.Inst.{Inst}
use Rattle.instruction_model.specs.declared.instruction.Inst.TheVariants.{Lui, Auipc, Jal, Jalr}
use Rattle.instruction_model.specs.declared.instruction.Inst.TheVariants.{Branch, Load, Store}
use Rattle.instruction_model.specs.declared.instruction.Inst.TheVariants.{OpImm, Op, OpImmW, OpW}
use Rattle.instruction_model.specs.declared.instruction.Inst.TheVariants.{Fence, Ecall, Ebreak}

-- ---- the formats: where the fields of a word stand

-- bits high..low of n
abbrev pub bits : (n high low : ℕ) → ℕ
bits n high low = n / 2 ^ low % 2 ^ (high + 1 - low)

abbrev pub r_type : (opcode rd funct3 rs1 rs2 funct7 : ℕ) → ℕ
r_type opcode rd funct3 rs1 rs2 funct7 =
    opcode + rd * 2 ^ 7 + funct3 * 2 ^ 12 + rs1 * 2 ^ 15 + rs2 * 2 ^ 20 + funct7 * 2 ^ 25

-- the immediate is bits 31..20
abbrev pub i_type : (opcode rd funct3 rs1 imm : ℕ) → ℕ
i_type opcode rd funct3 rs1 imm =
    opcode + rd * 2 ^ 7 + funct3 * 2 ^ 12 + rs1 * 2 ^ 15 + imm * 2 ^ 20

-- the immediate is bits 31..25, then 11..7
abbrev pub s_type : (opcode funct3 rs1 rs2 imm : ℕ) → ℕ
s_type opcode funct3 rs1 rs2 imm = r_type opcode (bits imm 4 0) funct3 rs1 rs2 (bits imm 11 5)

-- the offset is bits 31, 7, 30..25, 11..8, then a 0
abbrev pub b_type : (opcode funct3 rs1 rs2 offset : ℕ) → ℕ
b_type opcode funct3 rs1 rs2 offset =
    r_type opcode (bits offset 11 11 + bits offset 4 1 * 2) funct3 rs1 rs2 (bits offset 10 5
    + bits offset 12 12 * 2 ^ 6)

-- the immediate is bits 31..12
abbrev pub u_type : (opcode rd imm : ℕ) → ℕ
u_type opcode rd imm = opcode + rd * 2 ^ 7 + imm * 2 ^ 12

-- the offset is bits 31, 19..12, 20, 30..21, then a 0
abbrev pub j_type : (opcode rd offset : ℕ) → ℕ
j_type opcode rd offset =
    u_type opcode rd (bits offset 19 12 + bits offset 11 11 * 2 ^ 8 + bits offset 10 1 * 2 ^ 9
    + bits offset 20 20 * 2 ^ 19)

-- ---- the fixed bits of each mnemonic

abbrev pub branch_funct3 : BranchOp → ℕ
branch_funct3 Beq = 0
branch_funct3 Bne = 1
branch_funct3 Blt = 4
branch_funct3 Bge = 5
branch_funct3 Bltu = 6
branch_funct3 Bgeu = 7

abbrev pub load_funct3 : LoadOp → ℕ
load_funct3 Lb = 0
load_funct3 Lh = 1
load_funct3 Lw = 2
load_funct3 Ld = 3
load_funct3 Lbu = 4
load_funct3 Lhu = 5
load_funct3 Lwu = 6

abbrev pub store_funct3 : StoreOp → ℕ
store_funct3 Sb = 0
store_funct3 Sh = 1
store_funct3 Sw = 2
store_funct3 Sd = 3

abbrev pub imm_funct3 : ImmOp → ℕ
imm_funct3 Addi = 0
imm_funct3 Slli = 1
imm_funct3 Slti = 2
imm_funct3 Sltiu = 3
imm_funct3 Xori = 4
imm_funct3 Srli = 5
imm_funct3 Srai = 5
imm_funct3 Ori = 6
imm_funct3 Andi = 7

-- bits 31..20 of the word: the immediate, or a shift's amount below the six bits 010000 for SRAI
abbrev pub imm_field : ImmOp → ℤ → ℕ
imm_field Addi imm = modulo_two_to 12 imm
imm_field Slti imm = modulo_two_to 12 imm
imm_field Sltiu imm = modulo_two_to 12 imm
imm_field Xori imm = modulo_two_to 12 imm
imm_field Ori imm = modulo_two_to 12 imm
imm_field Andi imm = modulo_two_to 12 imm
imm_field Slli imm = modulo_two_to 6 imm
imm_field Srli imm = modulo_two_to 6 imm
imm_field Srai imm = 2 ^ 10 + modulo_two_to 6 imm

abbrev pub reg_funct3 : RegOp → ℕ
reg_funct3 Add = 0
reg_funct3 Sub = 0
reg_funct3 Sll = 1
reg_funct3 Slt = 2
reg_funct3 Sltu = 3
reg_funct3 Xor = 4
reg_funct3 Srl = 5
reg_funct3 Sra = 5
reg_funct3 Or = 6
reg_funct3 And = 7
reg_funct3 Mul = 0
reg_funct3 Mulh = 1
reg_funct3 Mulhsu = 2
reg_funct3 Mulhu = 3
reg_funct3 Div = 4
reg_funct3 Divu = 5
reg_funct3 Rem = 6
reg_funct3 Remu = 7

abbrev pub reg_funct7 : RegOp → ℕ
reg_funct7 Add = 0
reg_funct7 Sub = 0x20
reg_funct7 Sll = 0
reg_funct7 Slt = 0
reg_funct7 Sltu = 0
reg_funct7 Xor = 0
reg_funct7 Srl = 0
reg_funct7 Sra = 0x20
reg_funct7 Or = 0
reg_funct7 And = 0
reg_funct7 Mul = 1
reg_funct7 Mulh = 1
reg_funct7 Mulhsu = 1
reg_funct7 Mulhu = 1
reg_funct7 Div = 1
reg_funct7 Divu = 1
reg_funct7 Rem = 1
reg_funct7 Remu = 1

abbrev pub imm_w_funct3 : ImmWOp → ℕ
imm_w_funct3 Addiw = 0
imm_w_funct3 Slliw = 1
imm_w_funct3 Srliw = 5
imm_w_funct3 Sraiw = 5

-- bits 31..20 of the word: the immediate, or a shift's amount below the seven bits 0100000 for
-- SRAIW
abbrev pub imm_w_field : ImmWOp → ℤ → ℕ
imm_w_field Addiw imm = modulo_two_to 12 imm
imm_w_field Slliw imm = modulo_two_to 5 imm
imm_w_field Srliw imm = modulo_two_to 5 imm
imm_w_field Sraiw imm = 2 ^ 10 + modulo_two_to 5 imm

abbrev pub reg_w_funct3 : RegWOp → ℕ
reg_w_funct3 Addw = 0
reg_w_funct3 Subw = 0
reg_w_funct3 Sllw = 1
reg_w_funct3 Srlw = 5
reg_w_funct3 Sraw = 5
reg_w_funct3 Mulw = 0
reg_w_funct3 Divw = 4
reg_w_funct3 Divuw = 5
reg_w_funct3 Remw = 6
reg_w_funct3 Remuw = 7

abbrev pub reg_w_funct7 : RegWOp → ℕ
reg_w_funct7 Addw = 0
reg_w_funct7 Subw = 0x20
reg_w_funct7 Sllw = 0
reg_w_funct7 Srlw = 0
reg_w_funct7 Sraw = 0x20
reg_w_funct7 Mulw = 1
reg_w_funct7 Divw = 1
reg_w_funct7 Divuw = 1
reg_w_funct7 Remw = 1
reg_w_funct7 Remuw = 1

-- ---- the ranges of the fields

abbrev pub IsRegister : ℕ → Type 0
IsRegister r = r < 32

-- z has a two's complement form of so many bits
abbrev pub FitsBits : ℕ → ℤ → Type 0
FitsBits bits z = (negsuc (2 ^ (bits - 1) - 1) ≤ℤ z) × (z ≤ℤ pos (2 ^ (bits - 1) - 1))

-- a shift's amount, below so many
abbrev pub IsAmount : ℕ → ℤ → Type 0
IsAmount limit z = (pos 0 ≤ℤ z) × (z ≤ℤ pos (limit - 1))

-- an even number of bytes with a two's complement form of so many bits
abbrev pub IsOffset : ℕ → ℤ → Type 0
IsOffset bits z = FitsBits bits z × (unsigned_abs z % 2 ≡ 0)

abbrev pub IsImm : ImmOp → ℤ → Type 0
IsImm Addi imm = FitsBits 12 imm
IsImm Slti imm = FitsBits 12 imm
IsImm Sltiu imm = FitsBits 12 imm
IsImm Xori imm = FitsBits 12 imm
IsImm Ori imm = FitsBits 12 imm
IsImm Andi imm = FitsBits 12 imm
IsImm Slli imm = IsAmount 64 imm
IsImm Srli imm = IsAmount 64 imm
IsImm Srai imm = IsAmount 64 imm

abbrev pub IsImmW : ImmWOp → ℤ → Type 0
IsImmW Addiw imm = FitsBits 12 imm
IsImmW Slliw imm = IsAmount 32 imm
IsImmW Srliw imm = IsAmount 32 imm
IsImmW Sraiw imm = IsAmount 32 imm

-- each field is in its range
abbrev pub IsSound : Inst → Type 0
IsSound (Lui rd n) = IsRegister rd × (n < 2 ^ 20)
IsSound (Auipc rd n) = IsRegister rd × (n < 2 ^ 20)
IsSound (Jal rd offset) = IsRegister rd × IsOffset 21 offset
IsSound (Jalr rd rs1 imm) = IsRegister rd × IsRegister rs1 × FitsBits 12 imm
IsSound (Branch op rs1 rs2 offset) = IsRegister rs1 × IsRegister rs2 × IsOffset 13 offset
IsSound (Load op rd rs1 imm) = IsRegister rd × IsRegister rs1 × FitsBits 12 imm
IsSound (Store op rs1 rs2 imm) = IsRegister rs1 × IsRegister rs2 × FitsBits 12 imm
IsSound (OpImm op rd rs1 imm) = IsRegister rd × IsRegister rs1 × IsImm op imm
IsSound (Op op rd rs1 rs2) = IsRegister rd × IsRegister rs1 × IsRegister rs2
IsSound (OpImmW op rd rs1 imm) = IsRegister rd × IsRegister rs1 × IsImmW op imm
IsSound (OpW op rd rs1 rs2) = IsRegister rd × IsRegister rs1 × IsRegister rs2
IsSound (Fence rd rs1 n) = IsRegister rd × IsRegister rs1 × (n < 2 ^ 12)
IsSound Ecall = Unit {0}
IsSound Ebreak = Unit {0}

-- ---- the rows

-- the word that spells an instruction whose fields are in their ranges
abbrev pub word_of : Inst → ℕ
word_of (Lui rd n) = u_type 0x37 rd n
word_of (Auipc rd n) = u_type 0x17 rd n
word_of (Jal rd offset) = j_type 0x6f rd (modulo_two_to 21 offset)
word_of (Jalr rd rs1 imm) = i_type 0x67 rd 0 rs1 (modulo_two_to 12 imm)
word_of (Branch op rs1 rs2 offset) =
    b_type 0x63 (branch_funct3 op) rs1 rs2 (modulo_two_to 13 offset)
word_of (Load op rd rs1 imm) = i_type 0x03 rd (load_funct3 op) rs1 (modulo_two_to 12 imm)
word_of (Store op rs1 rs2 imm) = s_type 0x23 (store_funct3 op) rs1 rs2 (modulo_two_to 12 imm)
word_of (OpImm op rd rs1 imm) = i_type 0x13 rd (imm_funct3 op) rs1 (imm_field op imm)
word_of (Op op rd rs1 rs2) = r_type 0x33 rd (reg_funct3 op) rs1 rs2 (reg_funct7 op)
word_of (OpImmW op rd rs1 imm) = i_type 0x1b rd (imm_w_funct3 op) rs1 (imm_w_field op imm)
word_of (OpW op rd rs1 rs2) = r_type 0x3b rd (reg_w_funct3 op) rs1 rs2 (reg_w_funct7 op)
word_of (Fence rd rs1 n) = i_type 0x0f rd 0 rs1 n
word_of Ecall = 0x00000073
word_of Ebreak = 0x00100073

-- The word is that instruction: its fields are in their ranges, and the row's bits and the
-- fields make the word.
abbrev pub IsWordOf : ℕ → Inst → Type 0
IsWordOf w v = IsSound v × (w ≡ word_of v)

-- the instruction of a word, or none where the word fits no row
abbrev pub Decodes : ℕ → Option Inst → Type 0
Decodes w None = (v : Inst) → IsWordOf w v → ⊥
Decodes w (Some v) = IsWordOf w v
