-- What one step of a hart over a space comes to.
use Rattle.std.specs.Prelude.{◌≡◌, ℕ, ◌<◌, Bool, None}
use Rattle.hart.specs.declared.instruction.StepEnd.{StepEnd}
use Rattle.hart.specs.declared.instruction.StepEnd.TheVariants.{Retired, Call, Trap, NeedFrames}
use Rattle.hart.specs.declared.instruction.StepEnd.TheVariants.{Memory}
use Rattle.instruction_model.specs.Word as word
use Rattle.instruction_model.specs.declared.instruction.Inst.{Inst}
use Rattle.instruction_model.specs.declared.instruction.Inst.TheVariants.{Lui, Auipc, Jal, Jalr}
use Rattle.instruction_model.specs.declared.instruction.Inst.TheVariants.{Branch, Load, Store}
use Rattle.instruction_model.specs.declared.instruction.Inst.TheVariants.{OpImm, Op, OpImmW, OpW}
use Rattle.instruction_model.specs.declared.instruction.Inst.TheVariants.{Fence, Ecall, Ebreak}
use Rattle.machine_model.specs.Instruction.{Next, Retires, Calls, Raises, IsNext, store_size}
use Rattle.machine_model.specs.Machine.{Machine, register, is_writable, least_failing}
use Rattle.space_api.specs.Frames.{need, LacksFrames}

-- ---- a step

-- the next instruction would retire
abbrev pub WouldRetire : Machine → Type 0
WouldRetire m = (after : Machine) × IsNext m (Retires after)

-- The step leads from the one machine to the other as the next instruction does. Where frames or
-- memory are wanted, the instruction isn't done, and would retire.
abbrev pub StepDoes : StepEnd → (old new : Machine) → Type 0
StepDoes Retired old new = IsNext old (Retires new)
StepDoes Call old new = IsNext old Calls
StepDoes (Trap cause tval) old new = IsNext old (Raises cause tval)
StepDoes NeedFrames old new = WouldRetire old
StepDoes Memory old new = WouldRetire old

-- in all ends but Retired
abbrev pub UnlessRetired : StepEnd → Type 0 → Type 0
UnlessRetired Retired p = Unit {0}
UnlessRetired Call p = p
UnlessRetired (Trap cause tval) p = p
UnlessRetired NeedFrames p = p
UnlessRetired Memory p = p

-- The next instruction would lead to a machine with more written pages, and that takes more frames
-- than there are spares.
pub record WantsFrames (takes : Bool) (spares : ℕ) (m : Machine) : Type 0 where
  pub after : Machine
  pub retires : IsNext m (Retires after)
  pub lacks : LacksFrames takes spares m.written after.written

-- ---- a step whose instruction is known

abbrev pub IsRetiring : Next → Type 0
IsRetiring (Retires after) = Unit {0}
IsRetiring Calls = ⊥
IsRetiring (Raises cause tval) = ⊥

-- the instruction does this, by how the step ended
abbrev pub DoesNext : StepEnd → (after : Machine) → Next → Type 0
DoesNext Retired after next = next ≡ Retires after
DoesNext Call after next = next ≡ Calls
DoesNext (Trap cause tval) after next = next ≡ Raises cause tval
DoesNext NeedFrames after next = IsRetiring next
DoesNext Memory after next = IsRetiring next

-- the instruction stores where it may, and that needs more frames than there are spares
abbrev pub Lacks : (takes : Bool) → (spares : ℕ) → Machine → Inst → Type 0
Lacks takes spares m (Lui rd n) = ⊥
Lacks takes spares m (Auipc rd n) = ⊥
Lacks takes spares m (Jal rd offset) = ⊥
Lacks takes spares m (Jalr rd rs1 imm) = ⊥
Lacks takes spares m (Branch op rs1 rs2 offset) = ⊥
Lacks takes spares m (Load op rd rs1 imm) = ⊥
Lacks takes spares m (Store op rs1 rs2 imm) =
    let at = word.add (register m rs1) (word.as_word imm) in
    (least_failing (is_writable m) at (store_size op) ≡ None)
    × (spares < need takes m.written at (store_size op))
Lacks takes spares m (OpImm op rd rs1 imm) = ⊥
Lacks takes spares m (Op op rd rs1 rs2) = ⊥
Lacks takes spares m (OpImmW op rd rs1 imm) = ⊥
Lacks takes spares m (OpW op rd rs1 rs2) = ⊥
Lacks takes spares m (Fence rd rs1 n) = ⊥
Lacks takes spares m Ecall = ⊥
Lacks takes spares m Ebreak = ⊥
