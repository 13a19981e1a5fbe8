-- The operation that a word names, in lower-case letters, or none.
use Rattle.std.specs.Option.{option_or}
use Rattle.std.specs.Prelude.{ℕ, if◌then◌else◌, bytes_eq, List, [], ◌∷◌, Option, Some, None}
use Rattle.instruction_model.specs.declared.instruction.BranchOp.{BranchOp}
use Rattle.instruction_model.specs.declared.instruction.BranchOp.TheVariants.{Beq, Bne, Blt, Bge}
use Rattle.instruction_model.specs.declared.instruction.BranchOp.TheVariants.{Bltu, Bgeu}
use Rattle.instruction_model.specs.declared.instruction.LoadOp.{LoadOp}
use Rattle.instruction_model.specs.declared.instruction.LoadOp.TheVariants.{Lb, Lh, Lw, Ld, Lbu}
use Rattle.instruction_model.specs.declared.instruction.LoadOp.TheVariants.{Lhu, Lwu}
use Rattle.instruction_model.specs.declared.instruction.StoreOp.{StoreOp}
use Rattle.instruction_model.specs.declared.instruction.StoreOp.TheVariants.{Sb, Sh, Sw, Sd}
use Rattle.instruction_model.specs.declared.instruction.ImmOp.{ImmOp}
use Rattle.instruction_model.specs.declared.instruction.ImmOp.TheVariants.{Addi, Slti, Sltiu, Xori}
use Rattle.instruction_model.specs.declared.instruction.ImmOp.TheVariants.{Ori, Andi, Slli, Srli}
use Rattle.instruction_model.specs.declared.instruction.ImmOp.TheVariants.{Srai}
use Rattle.instruction_model.specs.declared.instruction.RegOp.{RegOp}
use Rattle.instruction_model.specs.declared.instruction.RegOp.TheVariants.{Add, Sub, Sll, Slt, Sltu}
use Rattle.instruction_model.specs.declared.instruction.RegOp.TheVariants.{Xor, Srl, Sra, Or, And}
use Rattle.instruction_model.specs.declared.instruction.RegOp.TheVariants.{Mul, Mulh, Mulhsu, Mulhu}
use Rattle.instruction_model.specs.declared.instruction.RegOp.TheVariants.{Div, Divu, Rem, Remu}
use Rattle.instruction_model.specs.declared.instruction.ImmWOp.{ImmWOp}
use Rattle.instruction_model.specs.declared.instruction.ImmWOp.TheVariants.{Addiw, Slliw, Srliw}
use Rattle.instruction_model.specs.declared.instruction.ImmWOp.TheVariants.{Sraiw}
use Rattle.instruction_model.specs.declared.instruction.RegWOp.{RegWOp}
use Rattle.instruction_model.specs.declared.instruction.RegWOp.TheVariants.{Addw, Subw, Sllw, Srlw}
use Rattle.instruction_model.specs.declared.instruction.RegWOp.TheVariants.{Sraw, Mulw, Divw, Divuw}
use Rattle.instruction_model.specs.declared.instruction.RegWOp.TheVariants.{Remw, Remuw}
use Rattle.asm_words.specs.Names.{branch_name, load_name, store_name, imm_name, reg_name}
use Rattle.asm_words.specs.Names.{imm_w_name, reg_w_name}

-- the first of the list that has the name
abbrev pub named : {X : Type 0} → (X → List ℕ) → List X → List ℕ → Option X
named name [] word = None
named name (x ∷ xs) word = if bytes_eq word (name x) then Some x else named name xs word

abbrev pub branch_ops : List BranchOp
branch_ops = Beq ∷ Bne ∷ Blt ∷ Bge ∷ Bltu ∷ Bgeu ∷ []

abbrev pub branch_named : List ℕ → Option BranchOp
branch_named word = named branch_name branch_ops word

abbrev pub load_ops : List LoadOp
load_ops = Lb ∷ Lh ∷ Lw ∷ Ld ∷ Lbu ∷ Lhu ∷ Lwu ∷ []

abbrev pub load_named : List ℕ → Option LoadOp
load_named word = named load_name load_ops word

abbrev pub store_ops : List StoreOp
store_ops = Sb ∷ Sh ∷ Sw ∷ Sd ∷ []

abbrev pub store_named : List ℕ → Option StoreOp
store_named word = named store_name store_ops word

abbrev pub imm_ops : List ImmOp
imm_ops = Addi ∷ Slti ∷ Sltiu ∷ Xori ∷ Ori ∷ Andi ∷ Slli ∷ Srli ∷ Srai ∷ []

abbrev pub imm_named : List ℕ → Option ImmOp
imm_named word = named imm_name imm_ops word

abbrev pub base_ops : List RegOp
base_ops = Add ∷ Sub ∷ Sll ∷ Slt ∷ Sltu ∷ Xor ∷ Srl ∷ Sra ∷ Or ∷ And ∷ []

-- those of the extension for multiplication
abbrev pub product_ops : List RegOp
product_ops = Mul ∷ Mulh ∷ Mulhsu ∷ Mulhu ∷ Div ∷ Divu ∷ Rem ∷ Remu ∷ []

abbrev pub base_named : List ℕ → Option RegOp
base_named word = named reg_name base_ops word

abbrev pub product_named : List ℕ → Option RegOp
product_named word = named reg_name product_ops word

abbrev pub reg_named : List ℕ → Option RegOp
reg_named word = option_or (base_named word) (product_named word)

abbrev pub imm_w_ops : List ImmWOp
imm_w_ops = Addiw ∷ Slliw ∷ Srliw ∷ Sraiw ∷ []

abbrev pub imm_w_named : List ℕ → Option ImmWOp
imm_w_named word = named imm_w_name imm_w_ops word

abbrev pub reg_w_ops : List RegWOp
reg_w_ops = Addw ∷ Subw ∷ Sllw ∷ Srlw ∷ Sraw ∷ Mulw ∷ Divw ∷ Divuw ∷ Remw ∷ Remuw ∷ []

abbrev pub reg_w_named : List ℕ → Option RegWOp
reg_w_named word = named reg_w_name reg_w_ops word
