-- One instruction of the machine, with its exceptions (RISC-V unprivileged manual, "RV32I Base
-- Integer Instruction Set", "RV64I Base Integer Instruction Set" and "M Extension for Integer
-- Multiplication and Division"; causes: privileged manual, "Machine Cause Register").
use Rattle.std.specs.Prelude.{◌≡◌, ℕ, ◌+◌, ◌*◌, ◌/◌, ◌%◌, ◌^◌, ◌==◌, nat_lt, ℤ, int_lt, Bool, not}
use Rattle.std.specs.Prelude.{if◌then◌else◌, Option, Some, None, MatchBool}
use Rattle.std.specs.Int.{w8, w16, w32, cast_signed}
use Rattle.instruction_model.specs.InstructionWord.{Decodes}
use Rattle.instruction_model.specs.Word as word
use Rattle.instruction_model.specs.declared.instruction.BranchOp.{BranchOp}
use Rattle.instruction_model.specs.declared.instruction.BranchOp.TheVariants.{Beq, Bne, Blt, Bge}
use Rattle.instruction_model.specs.declared.instruction.BranchOp.TheVariants.{Bltu, Bgeu}
use Rattle.instruction_model.specs.declared.instruction.ImmOp.{ImmOp}
use Rattle.instruction_model.specs.declared.instruction.ImmOp.TheVariants.{Addi, Slti, Sltiu, Xori}
use Rattle.instruction_model.specs.declared.instruction.ImmOp.TheVariants.{Ori, Andi, Slli, Srli}
use Rattle.instruction_model.specs.declared.instruction.ImmOp.TheVariants.{Srai}
use Rattle.instruction_model.specs.declared.instruction.ImmWOp.{ImmWOp}
use Rattle.instruction_model.specs.declared.instruction.ImmWOp.TheVariants.{Addiw, Slliw, Srliw}
use Rattle.instruction_model.specs.declared.instruction.ImmWOp.TheVariants.{Sraiw}
use Rattle.instruction_model.specs.declared.instruction.Inst.{Inst}
use Rattle.instruction_model.specs.declared.instruction.Inst.TheVariants.{Lui, Auipc, Jal, Jalr}
use Rattle.instruction_model.specs.declared.instruction.Inst.TheVariants.{Branch, Load, Store}
use Rattle.instruction_model.specs.declared.instruction.Inst.TheVariants.{OpImm, Op, OpImmW, OpW}
use Rattle.instruction_model.specs.declared.instruction.Inst.TheVariants.{Fence, Ecall, Ebreak}
use Rattle.instruction_model.specs.declared.instruction.LoadOp.{LoadOp}
use Rattle.instruction_model.specs.declared.instruction.LoadOp.TheVariants.{Lb, Lh, Lw, Ld, Lbu}
use Rattle.instruction_model.specs.declared.instruction.LoadOp.TheVariants.{Lhu, Lwu}
use Rattle.instruction_model.specs.declared.instruction.RegOp.{RegOp}
use Rattle.instruction_model.specs.declared.instruction.RegOp.TheVariants.{Add, Sub, Sll, Slt, Sltu}
use Rattle.instruction_model.specs.declared.instruction.RegOp.TheVariants.{Xor, Srl, Sra, Or, And}
use Rattle.instruction_model.specs.declared.instruction.RegOp.TheVariants.{Mul, Mulh, Mulhsu, Mulhu}
use Rattle.instruction_model.specs.declared.instruction.RegOp.TheVariants.{Div, Divu, Rem, Remu}
use Rattle.instruction_model.specs.declared.instruction.RegWOp.{RegWOp}
use Rattle.instruction_model.specs.declared.instruction.RegWOp.TheVariants.{Addw, Subw, Sllw, Srlw}
use Rattle.instruction_model.specs.declared.instruction.RegWOp.TheVariants.{Sraw, Mulw, Divw, Divuw}
use Rattle.instruction_model.specs.declared.instruction.RegWOp.TheVariants.{Remw, Remuw}
use Rattle.instruction_model.specs.declared.instruction.StoreOp.{StoreOp}
use Rattle.instruction_model.specs.declared.instruction.StoreOp.TheVariants.{Sb, Sh, Sw, Sd}
use Rattle.machine_model.specs.Machine.{Machine, register, with_register, is_readable, is_writable}
use Rattle.machine_model.specs.Machine.{is_executable, range_passes, least_failing, bytes_at}
use Rattle.machine_model.specs.Machine.{little_endian, low_bytes, with_store}

-- ---- the exception causes that instructions raise, by their numbers

abbrev pub instruction_address_misaligned : ℕ
instruction_address_misaligned = 0

abbrev pub illegal_instruction : ℕ
illegal_instruction = 2

abbrev pub breakpoint : ℕ
breakpoint = 3

abbrev pub environment_call : ℕ
environment_call = 8

abbrev pub instruction_page_fault : ℕ
instruction_page_fault = 12

abbrev pub load_page_fault : ℕ
load_page_fault = 13

abbrev pub store_page_fault : ℕ
store_page_fault = 15

-- what an instruction does
pub data Next : Type 0 where
  -- it retires, and this is the machine after it
  Retires : Machine → Next
  -- it is an ECALL
  Calls : Next
  -- it raises an exception, and the machine stays as it is
  Raises : (cause tval : ℕ) → Next

-- ---- values

-- of an operation on a register's word and an immediate
abbrev pub imm_value : ImmOp → ℕ → ℤ → ℕ
imm_value Addi a imm = word.add a (word.as_word imm)
imm_value Slti a imm = word.slt a (word.as_word imm)
imm_value Sltiu a imm = word.sltu a (word.as_word imm)
imm_value Xori a imm = word.xor a (word.as_word imm)
imm_value Ori a imm = word.or a (word.as_word imm)
imm_value Andi a imm = word.and a (word.as_word imm)
imm_value Slli a imm = word.sll a (word.as_word imm)
imm_value Srli a imm = word.srl a (word.as_word imm)
imm_value Srai a imm = word.sra a (word.as_word imm)

-- of an operation on the low 32 bits of a register's word and an immediate
abbrev pub imm_w_value : ImmWOp → ℕ → ℤ → ℕ
imm_w_value Addiw a imm = word.addw a (word.as_word imm)
imm_w_value Slliw a imm = word.sllw a (word.as_word imm)
imm_w_value Srliw a imm = word.srlw a (word.as_word imm)
imm_w_value Sraiw a imm = word.sraw a (word.as_word imm)

-- of an operation on two registers' words
abbrev pub reg_value : RegOp → ℕ → ℕ → ℕ
reg_value Add a b = word.add a b
reg_value Sub a b = word.sub a b
reg_value Sll a b = word.sll a b
reg_value Slt a b = word.slt a b
reg_value Sltu a b = word.sltu a b
reg_value Xor a b = word.xor a b
reg_value Srl a b = word.srl a b
reg_value Sra a b = word.sra a b
reg_value Or a b = word.or a b
reg_value And a b = word.and a b
reg_value Mul a b = word.mul a b
reg_value Mulh a b = word.mulh a b
reg_value Mulhsu a b = word.mulhsu a b
reg_value Mulhu a b = word.mulhu a b
reg_value Div a b = word.div a b
reg_value Divu a b = word.divu a b
reg_value Rem a b = word.rem a b
reg_value Remu a b = word.remu a b

-- of an operation on the low 32 bits of two registers' words
abbrev pub reg_w_value : RegWOp → ℕ → ℕ → ℕ
reg_w_value Addw a b = word.addw a b
reg_w_value Subw a b = word.subw a b
reg_w_value Sllw a b = word.sllw a b
reg_w_value Srlw a b = word.srlw a b
reg_w_value Sraw a b = word.sraw a b
reg_w_value Mulw a b = word.mulw a b
reg_w_value Divw a b = word.divw a b
reg_w_value Divuw a b = word.divuw a b
reg_w_value Remw a b = word.remw a b
reg_w_value Remuw a b = word.remuw a b

-- bits 31..12 of the word, as the upper bits of a signed 32-bit number
abbrev pub upper_value : ℕ → ℕ
upper_value n = word.sign_extended (n * 2 ^ 12)

-- whether the branch is taken, by two registers' words
abbrev pub is_taken : BranchOp → ℕ → ℕ → Bool
is_taken Beq a b = a == b
is_taken Bne a b = not (a == b)
is_taken Blt a b = int_lt (word.signed a) (word.signed b)
is_taken Bge a b = not (int_lt (word.signed a) (word.signed b))
is_taken Bltu a b = nat_lt a b
is_taken Bgeu a b = not (nat_lt a b)

-- how many bytes a load reads, and a store writes
abbrev pub load_size : LoadOp → ℕ
load_size Lb = 1
load_size Lh = 2
load_size Lw = 4
load_size Ld = 8
load_size Lbu = 1
load_size Lhu = 2
load_size Lwu = 4

abbrev pub store_size : StoreOp → ℕ
store_size Sb = 1
store_size Sh = 2
store_size Sw = 4
store_size Sd = 8

-- the word of a loaded number, extended by its sign or by zeros
abbrev pub load_value : LoadOp → ℕ → ℕ
load_value Lb n = word.as_word (cast_signed w8 n)
load_value Lh n = word.as_word (cast_signed w16 n)
load_value Lw n = word.as_word (cast_signed w32 n)
load_value Ld n = n
load_value Lbu n = n
load_value Lhu n = n
load_value Lwu n = n

-- ---- effects

-- the address of the next instruction in a row
abbrev pub next_pc : Machine → ℕ
next_pc m = (m.pc + 4) % 2 ^ 64

-- it goes on with the next instruction
abbrev pub passes : Machine → Next
passes m = Retires (record m { pc = next_pc m })

-- it writes a register
abbrev pub writes : Machine → ℕ → ℕ → Next
writes m rd value =
    Retires (record m { registers = with_register rd value m.registers; pc = next_pc m })

-- it goes on at the target, which is to be a multiple of 4
abbrev pub jumps : Machine → (target : ℕ) → Next
jumps m target =
    if target % 4 == 0 then Retires (record m { pc = target })
    else Raises instruction_address_misaligned target

-- it goes on at the target too, with the address of the next instruction in a register
abbrev pub links : Machine → (rd target : ℕ) → Next
links m rd target =
    if target % 4 == 0
    then Retires (record m { registers = with_register rd (next_pc m) m.registers; pc = target })
    else Raises instruction_address_misaligned target

-- it raises an exception where an address fails, and else does what it does
abbrev pub unless_failing : (cause : ℕ) → Option ℕ → Next → Next
unless_failing cause None next = next
unless_failing cause (Some a) next = Raises cause a

abbrev pub loads : Machine → LoadOp → (rd at : ℕ) → Next
loads m op rd at =
    unless_failing load_page_fault (least_failing (is_readable m) at (load_size op))
    (writes m rd (load_value op (little_endian (bytes_at m.memory at (load_size op)))))

abbrev pub stores : Machine → StoreOp → (at value : ℕ) → Next
stores m op at value =
    unless_failing store_page_fault (least_failing (is_writable m) at (store_size op))
    (passes (with_store at (low_bytes (store_size op) value) m))

-- what the instruction of a word does
abbrev pub effect_of : Machine → ℕ → Inst → Next
effect_of m w (Lui rd n) = writes m rd (upper_value n)
effect_of m w (Auipc rd n) = writes m rd (word.add m.pc (upper_value n))
effect_of m w (Jal rd offset) = links m rd (word.add m.pc (word.as_word offset))
effect_of m w (Jalr rd rs1 imm) = links m rd (word.add (register m rs1) (word.as_word imm) / 2 * 2)
effect_of m w (Branch op rs1 rs2 offset) =
    if is_taken op (register m rs1) (register m rs2)
    then jumps m (word.add m.pc (word.as_word offset)) else passes m
effect_of m w (Load op rd rs1 imm) = loads m op rd (word.add (register m rs1) (word.as_word imm))
effect_of m w (Store op rs1 rs2 imm) =
    stores m op (word.add (register m rs1) (word.as_word imm)) (register m rs2)
effect_of m w (OpImm op rd rs1 imm) = writes m rd (imm_value op (register m rs1) imm)
effect_of m w (Op op rd rs1 rs2) = writes m rd (reg_value op (register m rs1) (register m rs2))
effect_of m w (OpImmW op rd rs1 imm) = writes m rd (imm_w_value op (register m rs1) imm)
effect_of m w (OpW op rd rs1 rs2) = writes m rd (reg_w_value op (register m rs1) (register m rs2))
effect_of m w (Fence rd rs1 n) = passes m
effect_of m w Ecall = Calls
effect_of m w Ebreak = Raises breakpoint m.pc

abbrev pub effect : Machine → ℕ → Option Inst → Next
effect m w None = Raises illegal_instruction w
effect m w (Some v) = effect_of m w v

-- the word at the program counter
abbrev pub word_at_pc : Machine → ℕ
word_at_pc m = little_endian (bytes_at m.memory m.pc 4)

abbrev pub can_fetch : Machine → Bool
can_fetch m = range_passes (is_executable m) m.pc 4

-- the word at the program counter is this instruction's, or no instruction's, and has its effect
pub record Executes (m : Machine) (next : Next) : Type 0 where
  pub instruction : Option Inst
  pub decoded : Decodes (word_at_pc m) instruction
  pub next_is : next ≡ effect m (word_at_pc m) instruction

-- what the machine's next instruction does
abbrev pub IsNext : Machine → Next → Type 0
IsNext m next =
    MatchBool (can_fetch m) (Executes m next) (next ≡ Raises instruction_page_fault m.pc)
