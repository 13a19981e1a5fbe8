-- What an instruction makes of a valid machine is valid.
use Rattle.std.proofs.Common.{◌≡◌, ℕ, ◌*◌, ◌%◌, ◌^◌, ◌<◌, Bool, true, false, Option, Some, None, MatchBool, refl, sym, subst, arith}
use Rattle.std.specs.Prelude.{◌==◌}
use Rattle.std.proofs.lemmas.Bool.Decides.{nat_tests}
use Rattle.instruction_model.specs.declared.instruction.Inst.{Inst}
use Rattle.instruction_model.specs.declared.instruction.Inst.TheVariants.{Lui, Auipc, Jal, Jalr, Branch, Load, Store, OpImm, Op, OpImmW, OpW, Fence, Ecall, Ebreak}
use Rattle.instruction_model.specs.declared.instruction.LoadOp.{LoadOp}
use Rattle.instruction_model.specs.declared.instruction.StoreOp.{StoreOp}
use Rattle.machine_model.specs.Instruction.{Next, Retires, Calls, Raises, IsNext, Executes, can_fetch, word_at_pc, effect, effect_of, writes, passes, jumps, links, loads, stores, next_pc, unless_failing, is_taken, load_size, store_size, load_page_fault, store_page_fault, instruction_page_fault}
use Rattle.machine_model.specs.Machine.{Machine, register, with_register, is_readable, is_writable, least_failing, bytes_at, little_endian, low_bytes, with_store}
use Rattle.machine_model.specs.Valid.{IsValid}
use Rattle.machine_model.proofs.Changes.{registers_of, with_register-keeps, valid-registers, valid-store}
use Rattle.machine_model.proofs.Choices.{of_either}
use Rattle.machine_model.proofs.Ranges.{length-bytes_at, length-low_bytes, passes_from_none}
use Rattle.machine_model.proofs.Values.{add-lt, reg_value-lt, reg_w_value-lt, imm_value-lt, imm_w_value-lt, upper_value-lt, load_value-lt, little_endian-lt, bytes_at-bytes, low_bytes-bytes}

-- the machine that it retires to is valid
abbrev pub Keeps : Next → Type 0
Keeps (Retires after) = IsValid after
Keeps Calls = Unit {0}
Keeps (Raises cause tval) = Unit {0}

keeps-unless : (cause : ℕ) (o : Option ℕ) (next : Next) → (o ≡ None → Keeps next) →
    Keeps (unless_failing cause o next)
keeps-unless cause None next h = h refl
keeps-unless cause (Some a) next h = tt

-- ---- kinds of effect

next_pc-lt : (m : Machine) → next_pc m < 2 ^ 64
next_pc-lt m = omega arith

pub next_pc-aligned : (m : Machine) → IsValid m → next_pc m % 4 ≡ 0
next_pc-aligned m v = let a = v.aligned in omega arith

writes-keeps : (m : Machine) (rd value : ℕ) → IsValid m → value < 2 ^ 64 →
    Keeps (writes m rd value)
writes-keeps m rd value v fits =
    valid-registers m (with_register rd value m.registers) (next_pc m) v
    (with_register-keeps rd value m.registers fits (registers_of m v)) (next_pc-lt m)
    (next_pc-aligned m v)

passes-keeps : (m : Machine) → IsValid m → Keeps (passes m)
passes-keeps m v =
    valid-registers m m.registers (next_pc m) v (registers_of m v) (next_pc-lt m)
    (next_pc-aligned m v)

aligned-by : (target : ℕ) → (target % 4 == 0) ≡ true → target % 4 ≡ 0
aligned-by target e = grind (arith, nat_tests)

jumps-keeps : (m : Machine) (target : ℕ) → IsValid m → target < 2 ^ 64 → Keeps (jumps m target)
jumps-keeps m target v fits =
    of_either Keeps (target % 4 == 0) _ _
    (λ e. valid-registers m m.registers target v (registers_of m v) fits (aligned-by target e))
    (λ e. tt)

links-keeps : (m : Machine) (rd target : ℕ) → IsValid m → target < 2 ^ 64 →
    Keeps (links m rd target)
links-keeps m rd target v fits =
    of_either Keeps (target % 4 == 0) _ _
    (λ e. valid-registers m (with_register rd (next_pc m) m.registers) target v
    (with_register-keeps rd (next_pc m) m.registers (next_pc-lt m) (registers_of m v)) fits
    (aligned-by target e))
    (λ e. tt)

-- so many bytes of memory spell a number of so many
pub read-lt : (m : Machine) (at n : ℕ) → IsValid m →
    little_endian (bytes_at m.memory at n) < 2 ^ (8 * n)
read-lt m at n v =
    rw length-bytes_at at (little_endian-lt (bytes_at m.memory at n)
    (bytes_at-bytes m.memory at n v.memory))

loads-keeps : (m : Machine) (op : LoadOp) (rd at : ℕ) → IsValid m → Keeps (loads m op rd at)
loads-keeps m op rd at v =
    keeps-unless load_page_fault (least_failing (is_readable m) at (load_size op)) _
    (λ e. writes-keeps m rd _ v (load_value-lt op _ (read-lt m at (load_size op) v)))

stores-keeps : (m : Machine) (op : StoreOp) (at value : ℕ) → IsValid m →
    Keeps (stores m op at value)
stores-keeps m op at value v =
    let bytes = low_bytes (store_size op) value in
    keeps-unless store_page_fault (least_failing (is_writable m) at (store_size op)) _
    (λ e. passes-keeps (with_store at bytes m)
    (valid-store m at bytes v (low_bytes-bytes (store_size op) value)
    (rw length-low_bytes (passes_from_none (is_writable m) at (store_size op) e))))

-- ---- every instruction

effect_of-keeps : (m : Machine) (w : ℕ) (i : Inst) → IsValid m → Keeps (effect_of m w i)
effect_of-keeps m w (Lui rd n) v = writes-keeps m rd _ v (upper_value-lt n)
effect_of-keeps m w (Auipc rd n) v = writes-keeps m rd _ v (add-lt m.pc _)
effect_of-keeps m w (Jal rd offset) v = links-keeps m rd _ v (add-lt m.pc _)
effect_of-keeps m w (Jalr rd rs1 imm) v = links-keeps m rd _ v (omega arith)
effect_of-keeps m w (Branch op rs1 rs2 offset) v =
    of_either Keeps (is_taken op (register m rs1) (register m rs2)) _ _
    (λ e. jumps-keeps m _ v (add-lt m.pc _)) (λ e. passes-keeps m v)
effect_of-keeps m w (Load op rd rs1 imm) v = loads-keeps m op rd _ v
effect_of-keeps m w (Store op rs1 rs2 imm) v = stores-keeps m op _ _ v
effect_of-keeps m w (OpImm op rd rs1 imm) v =
    writes-keeps m rd _ v (imm_value-lt op (register m rs1) imm (v.words rs1))
effect_of-keeps m w (Op op rd rs1 rs2) v =
    writes-keeps m rd _ v
    (reg_value-lt op (register m rs1) (register m rs2) (v.words rs1) (v.words rs2))
effect_of-keeps m w (OpImmW op rd rs1 imm) v =
    writes-keeps m rd _ v (imm_w_value-lt op (register m rs1) imm)
effect_of-keeps m w (OpW op rd rs1 rs2) v =
    writes-keeps m rd _ v (reg_w_value-lt op (register m rs1) (register m rs2))
effect_of-keeps m w (Fence rd rs1 n) v = passes-keeps m v
effect_of-keeps m w Ecall v = tt
effect_of-keeps m w Ebreak v = tt

effect-keeps : (m : Machine) (w : ℕ) (o : Option Inst) → IsValid m → Keeps (effect m w o)
effect-keeps m w None v = tt
effect-keeps m w (Some i) v = effect_of-keeps m w i v

next_by : (m : Machine) (next : Next) (test : Bool) → IsValid m →
    MatchBool test (Executes m next) (next ≡ Raises instruction_page_fault m.pc) → Keeps next
next_by m next true v n =
    subst Keeps (sym n.next_is) (effect-keeps m (word_at_pc m) n.instruction v)
next_by m next false v n = subst Keeps (sym n) tt

pub next-keeps : (m : Machine) (next : Next) → IsValid m → IsNext m next → Keeps next
next-keeps m next v n = next_by m next (can_fetch m) v n

pub instruction_keeps : (m after : Machine) → IsValid m → IsNext m (Retires after) → IsValid after
instruction_keeps m after v n = next-keeps m (Retires after) v n
