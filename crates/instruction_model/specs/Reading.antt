-- The instruction of a word, read off its fields: the tables of codes the other way round.
-- The law `every_word` ties it to the rows of InstructionWord.antt.
use Rattle.std.specs.Prelude.{ℕ, ◌+◌, ◌*◌, ◌^◌, ◌==◌, if◌then◌else◌, ℤ, pos, Option, Some, None}
use Rattle.std.specs.Prelude.{option_map}
use Rattle.instruction_model.specs.declared.instruction.BranchOp.{BranchOp}
use Rattle.instruction_model.specs.declared.instruction.BranchOp.TheVariants.{Beq, Bne, Blt, Bge}
use Rattle.instruction_model.specs.declared.instruction.BranchOp.TheVariants.{Bltu, Bgeu}
use Rattle.instruction_model.specs.declared.instruction.LoadOp.{LoadOp}
use Rattle.instruction_model.specs.declared.instruction.LoadOp.TheVariants.{Lb, Lh, Lw, Ld, Lbu}
use Rattle.instruction_model.specs.declared.instruction.LoadOp.TheVariants.{Lhu, Lwu}
use Rattle.instruction_model.specs.declared.instruction.StoreOp.{StoreOp}
use Rattle.instruction_model.specs.declared.instruction.StoreOp.TheVariants.{Sb, Sh, Sw, Sd}
use Rattle.instruction_model.specs.declared.instruction.ImmOp.{ImmOp}
use Rattle.instruction_model.specs.declared.instruction.ImmOp.TheVariants.{Addi, Slti, Sltiu, Xori}
use Rattle.instruction_model.specs.declared.instruction.ImmOp.TheVariants.{Ori, Andi, Slli, Srli}
use Rattle.instruction_model.specs.declared.instruction.ImmOp.TheVariants.{Srai}
use Rattle.instruction_model.specs.declared.instruction.RegOp.{RegOp}
use Rattle.instruction_model.specs.declared.instruction.RegOp.TheVariants.{Add, Sub, Sll, Slt, Sltu}
use Rattle.instruction_model.specs.declared.instruction.RegOp.TheVariants.{Xor, Srl, Sra, Or, And}
use Rattle.instruction_model.specs.declared.instruction.RegOp.TheVariants.{Mul, Mulh, Mulhsu, Mulhu}
use Rattle.instruction_model.specs.declared.instruction.RegOp.TheVariants.{Div, Divu, Rem, Remu}
use Rattle.instruction_model.specs.declared.instruction.ImmWOp.{ImmWOp}
use Rattle.instruction_model.specs.declared.instruction.ImmWOp.TheVariants.{Addiw, Slliw, Srliw}
use Rattle.instruction_model.specs.declared.instruction.ImmWOp.TheVariants.{Sraiw}
use Rattle.instruction_model.specs.declared.instruction.RegWOp.{RegWOp}
use Rattle.instruction_model.specs.declared.instruction.RegWOp.TheVariants.{Addw, Subw, Sllw, Srlw}
use Rattle.instruction_model.specs.declared.instruction.RegWOp.TheVariants.{Sraw, Mulw, Divw, Divuw}
use Rattle.instruction_model.specs.declared.instruction.RegWOp.TheVariants.{Remw, Remuw}
use Rattle.instruction_model.specs.declared.instruction.Inst.{Inst}
use Rattle.instruction_model.specs.declared.instruction.Inst.TheVariants.{Lui, Auipc, Jal, Jalr}
use Rattle.instruction_model.specs.declared.instruction.Inst.TheVariants.{Branch, Load, Store}
use Rattle.instruction_model.specs.declared.instruction.Inst.TheVariants.{OpImm, Op, OpImmW, OpW}
use Rattle.instruction_model.specs.declared.instruction.Inst.TheVariants.{Fence, Ecall, Ebreak}
use Rattle.instruction_model.specs.InstructionWord.{bits}
use Rattle.instruction_model.specs.Word.{signed_field}

-- ---- the mnemonic of a code

abbrev pub branch_op : (funct3 : ℕ) → Option BranchOp
branch_op f =
    if f == 0 then Some Beq else if f == 1 then Some Bne
    else if f == 4 then Some Blt else if f == 5 then Some Bge
    else if f == 6 then Some Bltu else if f == 7 then Some Bgeu
    else None

abbrev pub load_op : (funct3 : ℕ) → Option LoadOp
load_op f =
    if f == 0 then Some Lb else if f == 1 then Some Lh
    else if f == 2 then Some Lw else if f == 3 then Some Ld
    else if f == 4 then Some Lbu else if f == 5 then Some Lhu
    else if f == 6 then Some Lwu else None

abbrev pub store_op : (funct3 : ℕ) → Option StoreOp
store_op f =
    if f == 0 then Some Sb else if f == 1 then Some Sh
    else if f == 2 then Some Sw else if f == 3 then Some Sd
    else None

-- the upper six bits tell the shifts apart
abbrev pub shift_op : (funct3 funct6 : ℕ) → Option ImmOp
shift_op f s =
    if f == 1 then if s == 0 then Some Slli else None
    else if s == 0 then Some Srli
    else if s == 16 then Some Srai
    else None

abbrev pub imm_op : (funct3 funct6 : ℕ) → Option ImmOp
imm_op f s =
    if f == 0 then Some Addi else if f == 1 then shift_op 1 s
    else if f == 2 then Some Slti else if f == 3 then Some Sltiu
    else if f == 4 then Some Xori else if f == 5 then shift_op 5 s
    else if f == 6 then Some Ori else if f == 7 then Some Andi
    else None

abbrev pub base_op : (funct3 : ℕ) → Option RegOp
base_op f =
    if f == 0 then Some Add else if f == 1 then Some Sll
    else if f == 2 then Some Slt else if f == 3 then Some Sltu
    else if f == 4 then Some Xor else if f == 5 then Some Srl
    else if f == 6 then Some Or else if f == 7 then Some And
    else None

abbrev pub multiply_op : (funct3 : ℕ) → Option RegOp
multiply_op f =
    if f == 0 then Some Mul else if f == 1 then Some Mulh
    else if f == 2 then Some Mulhsu else if f == 3 then Some Mulhu
    else if f == 4 then Some Div else if f == 5 then Some Divu
    else if f == 6 then Some Rem else if f == 7 then Some Remu
    else None

abbrev pub other_op : (funct3 : ℕ) → Option RegOp
other_op f = if f == 0 then Some Sub else if f == 5 then Some Sra else None

abbrev pub reg_op : (funct3 funct7 : ℕ) → Option RegOp
reg_op f s =
    if s == 0 then base_op f else if s == 1 then multiply_op f else if s == 32 then other_op f
    else None

abbrev pub imm_w_op : (funct3 funct7 : ℕ) → Option ImmWOp
imm_w_op f s =
    if f == 0 then Some Addiw
    else if f == 1 then if s == 0 then Some Slliw else None
    else if f == 5 then if s == 0 then Some Srliw else if s == 32 then Some Sraiw else None
    else None

abbrev pub base_w_op : (funct3 : ℕ) → Option RegWOp
base_w_op f =
    if f == 0 then Some Addw else if f == 1 then Some Sllw else if f == 5 then Some Srlw else None

abbrev pub multiply_w_op : (funct3 : ℕ) → Option RegWOp
multiply_w_op f =
    if f == 0 then Some Mulw else if f == 4 then Some Divw
    else if f == 5 then Some Divuw else if f == 6 then Some Remw
    else if f == 7 then Some Remuw
    else None

abbrev pub other_w_op : (funct3 : ℕ) → Option RegWOp
other_w_op f = if f == 0 then Some Subw else if f == 5 then Some Sraw else None

abbrev pub reg_w_op : (funct3 funct7 : ℕ) → Option RegWOp
reg_w_op f s =
    if s == 0 then base_w_op f else if s == 1 then multiply_w_op f else if s == 32
    then other_w_op f else None

-- ---- the fields of a word

abbrev pub opcode_of : ℕ → ℕ
opcode_of w = bits w 6 0

abbrev pub rd_of : ℕ → ℕ
rd_of w = bits w 11 7

abbrev pub funct3_of : ℕ → ℕ
funct3_of w = bits w 14 12

abbrev pub rs1_of : ℕ → ℕ
rs1_of w = bits w 19 15

abbrev pub rs2_of : ℕ → ℕ
rs2_of w = bits w 24 20

abbrev pub i_imm : ℕ → ℤ
i_imm w = signed_field 12 (bits w 31 20)

abbrev pub s_imm : ℕ → ℤ
s_imm w = signed_field 12 (bits w 11 7 + bits w 31 25 * 2 ^ 5)

abbrev pub b_offset : ℕ → ℤ
b_offset w =
    signed_field 13 (bits w 11 8 * 2 + bits w 30 25 * 2 ^ 5 + bits w 7 7 * 2 ^ 11
    + bits w 31 31 * 2 ^ 12)

abbrev pub j_offset : ℕ → ℤ
j_offset w =
    signed_field 21 (bits w 30 21 * 2 + bits w 20 20 * 2 ^ 11 + bits w 19 12 * 2 ^ 12
    + bits w 31 31 * 2 ^ 20)

-- an operation's immediate: a shift has its amount
abbrev pub imm_of : ImmOp → ℕ → ℤ
imm_of Addi w = i_imm w
imm_of Slti w = i_imm w
imm_of Sltiu w = i_imm w
imm_of Xori w = i_imm w
imm_of Ori w = i_imm w
imm_of Andi w = i_imm w
imm_of Slli w = pos (bits w 25 20)
imm_of Srli w = pos (bits w 25 20)
imm_of Srai w = pos (bits w 25 20)

abbrev pub imm_w_of : ImmWOp → ℕ → ℤ
imm_w_of Addiw w = i_imm w
imm_w_of Slliw w = pos (bits w 24 20)
imm_w_of Srliw w = pos (bits w 24 20)
imm_w_of Sraiw w = pos (bits w 24 20)

-- ---- the instruction of a word, by its opcode

abbrev pub jalr_of : ℕ → Option Inst
jalr_of w = if funct3_of w == 0 then Some (Jalr (rd_of w) (rs1_of w) (i_imm w)) else None

abbrev pub branch_of : ℕ → Option Inst
branch_of w =
    option_map (λ op. Branch op (rs1_of w) (rs2_of w) (b_offset w)) (branch_op (funct3_of w))

abbrev pub load_of : ℕ → Option Inst
load_of w = option_map (λ op. Load op (rd_of w) (rs1_of w) (i_imm w)) (load_op (funct3_of w))

abbrev pub store_of : ℕ → Option Inst
store_of w = option_map (λ op. Store op (rs1_of w) (rs2_of w) (s_imm w)) (store_op (funct3_of w))

abbrev pub op_imm_of : ℕ → Option Inst
op_imm_of w =
    option_map (λ op. OpImm op (rd_of w) (rs1_of w) (imm_of op w)) (imm_op (funct3_of w)
    (bits w 31 26))

abbrev pub op_of : ℕ → Option Inst
op_of w =
    option_map (λ op. Op op (rd_of w) (rs1_of w) (rs2_of w)) (reg_op (funct3_of w) (bits w 31 25))

abbrev pub op_imm_w_of : ℕ → Option Inst
op_imm_w_of w =
    option_map (λ op. OpImmW op (rd_of w) (rs1_of w) (imm_w_of op w)) (imm_w_op (funct3_of w)
    (bits w 31 25))

abbrev pub op_w_of : ℕ → Option Inst
op_w_of w =
    option_map (λ op. OpW op (rd_of w) (rs1_of w) (rs2_of w)) (reg_w_op (funct3_of w)
    (bits w 31 25))

abbrev pub fence_of : ℕ → Option Inst
fence_of w = if funct3_of w == 0 then Some (Fence (rd_of w) (rs1_of w) (bits w 31 20)) else None

abbrev pub system_of : ℕ → Option Inst
system_of w = if w == 0x00000073 then Some Ecall else if w == 0x00100073 then Some Ebreak else None

abbrev pub by_opcode : (opcode w : ℕ) → Option Inst
by_opcode o w =
    if o == 0x03 then load_of w
    else if o == 0x0f then fence_of w
    else if o == 0x13 then op_imm_of w
    else if o == 0x17 then Some (Auipc (rd_of w) (bits w 31 12))
    else if o == 0x1b then op_imm_w_of w
    else if o == 0x23 then store_of w
    else if o == 0x33 then op_of w
    else if o == 0x37 then Some (Lui (rd_of w) (bits w 31 12))
    else if o == 0x3b then op_w_of w
    else if o == 0x63 then branch_of w
    else if o == 0x67 then jalr_of w
    else if o == 0x6f then Some (Jal (rd_of w) (j_offset w))
    else if o == 0x73 then system_of w
    else None

abbrev pub reading : ℕ → Option Inst
reading w = by_opcode (opcode_of w) w
