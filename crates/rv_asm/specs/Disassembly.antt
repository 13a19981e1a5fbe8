-- How instruction words are printed: registers as `x0` to `x31`, other operands in decimal, and a
-- comma and a space between two operands.
use Rattle.std.specs.Prelude.{ℕ, ◌-◌, false, ℤ, List, ◌++◌, length, codes, replicate}
use Rattle.std.specs.Prelude.{Option, Some, None}
use Rattle.std.specs.Fmt.{decimal, signed_decimal, digits}
use Rattle.instruction_model.specs.Reading.{reading}
use Rattle.instruction_model.specs.declared.instruction.Inst.{Inst}
use Rattle.instruction_model.specs.declared.instruction.Inst.TheVariants.{Lui, Auipc, Jal, Jalr}
use Rattle.instruction_model.specs.declared.instruction.Inst.TheVariants.{Branch, Load, Store}
use Rattle.instruction_model.specs.declared.instruction.Inst.TheVariants.{OpImm, Op, OpImmW, OpW}
use Rattle.instruction_model.specs.declared.instruction.Inst.TheVariants.{Fence, Ecall, Ebreak}
use Rattle.asm_words.specs.Names.{branch_name, load_name, store_name, imm_name, reg_name}
use Rattle.asm_words.specs.Names.{imm_w_name, reg_w_name}

-- ---- a line of each shape

-- `NAME xA, N`
abbrev pub upper_text : (name : List ℕ) (a n : ℕ) → List ℕ
upper_text name a n = name ++ (codes " x" ++ (decimal a ++ (codes ", " ++ decimal n)))

-- `NAME xA, Z`
abbrev pub jump_text : (name : List ℕ) (a : ℕ) (z : ℤ) → List ℕ
jump_text name a z = name ++ (codes " x" ++ (decimal a ++ (codes ", " ++ signed_decimal z)))

-- `NAME xA, Z(xB)`
abbrev pub address_text : (name : List ℕ) (a : ℕ) (z : ℤ) (b : ℕ) → List ℕ
address_text name a z b =
    name ++ (codes " x" ++ (decimal a ++ (codes ", " ++ (signed_decimal z
    ++ (codes "(x" ++ (decimal b ++ codes ")"))))))

-- `NAME xA, xB, Z`
abbrev pub two_registers_text : (name : List ℕ) (a b : ℕ) (z : ℤ) → List ℕ
two_registers_text name a b z =
    name ++ (codes " x" ++ (decimal a ++ (codes ", x" ++ (decimal b
    ++ (codes ", " ++ signed_decimal z)))))

-- `NAME xA, xB, xC`
abbrev pub three_registers_text : (name : List ℕ) (a b c : ℕ) → List ℕ
three_registers_text name a b c =
    name ++ (codes " x" ++ (decimal a ++ (codes ", x" ++ (decimal b
    ++ (codes ", x" ++ decimal c)))))

-- `fence xA, xB, N`
abbrev pub fence_text : (a b n : ℕ) → List ℕ
fence_text a b n =
    codes "fence x" ++ (decimal a ++ (codes ", x" ++ (decimal b ++ (codes ", " ++ decimal n))))

-- ---- each instruction

abbrev pub instruction_text : Inst → List ℕ
instruction_text (Lui rd n) = upper_text (codes "lui") rd n
instruction_text (Auipc rd n) = upper_text (codes "auipc") rd n
instruction_text (Jal rd offset) = jump_text (codes "jal") rd offset
instruction_text (Jalr rd rs1 imm) = address_text (codes "jalr") rd imm rs1
instruction_text (Branch op rs1 rs2 offset) =
    two_registers_text (branch_name op) rs1 rs2 offset
instruction_text (Load op rd rs1 imm) = address_text (load_name op) rd imm rs1
instruction_text (Store op rs1 rs2 imm) = address_text (store_name op) rs2 imm rs1
instruction_text (OpImm op rd rs1 imm) = two_registers_text (imm_name op) rd rs1 imm
instruction_text (Op op rd rs1 rs2) = three_registers_text (reg_name op) rd rs1 rs2
instruction_text (OpImmW op rd rs1 imm) = two_registers_text (imm_w_name op) rd rs1 imm
instruction_text (OpW op rd rs1 rs2) = three_registers_text (reg_w_name op) rd rs1 rs2
instruction_text (Fence rd rs1 n) = fence_text rd rs1 n
instruction_text Ecall = codes "ecall"
instruction_text Ebreak = codes "ebreak"

-- ---- each word

-- a number below 2 ^ 32 in eight hexadecimal digits
unfoldable pub eight_digits : ℕ → List ℕ
eight_digits n = let shown = digits 16 false n in replicate (8 - length shown) 48 ++ shown

-- `.word 0x`, and the word
abbrev pub data_text : ℕ → List ℕ
data_text w = codes ".word 0x" ++ eight_digits w

-- the line of an instruction, or of a word that is none
abbrev pub line_of : Option Inst → (w : ℕ) → List ℕ
line_of (Some inst) w = instruction_text inst
line_of None w = data_text w

-- the line of a word
abbrev pub disassembly : ℕ → List ℕ
disassembly w = line_of (reading w) w
