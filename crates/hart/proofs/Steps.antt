-- Steps, from what was fetched and what its instruction does.
use Rattle.std.proofs.Common.{◌≡◌, ℕ, ◌%◌, ◌==◌, Bool, true, false, MatchBool, if◌then◌else◌}
use Rattle.std.proofs.Common.{Option, None, Some, Result, Ok, Err, length, refl, sym, ap, ◌∙◌}
use Rattle.hart.specs.Step.{StepDoes, DoesNext, IsRetiring, WouldRetire, WantsFrames, Lacks}
use Rattle.hart.specs.declared.instruction.StepEnd.{StepEnd}
use Rattle.hart.specs.declared.instruction.StepEnd.TheVariants.{Retired, Call, Trap, NeedFrames}
use Rattle.hart.specs.declared.instruction.StepEnd.TheVariants.{Memory}
use Rattle.instruction_model.specs.InstructionWord.{Decodes}
use Rattle.instruction_model.specs.Word.{add, as_word}
use Rattle.instruction_model.specs.declared.instruction.Inst.{Inst}
use Rattle.instruction_model.specs.declared.instruction.Inst.TheVariants.{Lui, Auipc, Jal, Jalr}
use Rattle.instruction_model.specs.declared.instruction.Inst.TheVariants.{Branch, Load, Store}
use Rattle.instruction_model.specs.declared.instruction.Inst.TheVariants.{OpImm, Op, OpImmW, OpW}
use Rattle.instruction_model.specs.declared.instruction.Inst.TheVariants.{Fence, Ecall, Ebreak}
use Rattle.instruction_model.specs.declared.instruction.StoreOp.{StoreOp}
use Rattle.machine_model.specs.Instruction.{Next, Retires, Calls, Raises, IsNext, Executes}
use Rattle.machine_model.specs.Instruction.{can_fetch, word_at_pc, next_pc, effect_of, jumps, links}
use Rattle.machine_model.specs.Instruction.{stores, unless_failing, is_taken, load_size, store_size}
use Rattle.machine_model.specs.Instruction.{load_page_fault, store_page_fault}
use Rattle.machine_model.specs.Machine.{Machine, register, is_readable, is_writable, least_failing}
use Rattle.machine_model.specs.Machine.{low_bytes, with_store, with_written}
use Rattle.machine_model.proofs.Ranges.{length-low_bytes}
use Rattle.machine_model.proofs.Runs.{one_next}
use Rattle.space_api.specs.Frames.{LacksFrames}
use Rattle.space_api.specs.Outcomes.{EndsWrite}
use Rattle.space_api.specs.declared.access.Access.{Access}
use Rattle.space_api.specs.declared.access.Access.TheVariants as access
use Rattle.space_api.proofs.Frames.{need_lacks, lacks_need, same_lacks}

-- a word was fetched, so it may be
pub may_fetch : (b : Bool) (P : Type 0) (result : Result ℕ Access) (word : ℕ) (access : Access) →
    MatchBool b P (result ≡ Err access) → result ≡ Ok word → b ≡ true
may_fetch true P result word access h e = refl
may_fetch false P result word access h e = cc

-- the next instruction is the one at the program counter
next_is : (m : Machine) (v : Inst) (next : Next) → can_fetch m ≡ true →
    Decodes (word_at_pc m) (Some v) → next ≡ effect_of m (word_at_pc m) v → IsNext m next
next_is m v next h d e =
    let run : Executes m next = record { instruction = Some v; decoded = d; next_is = e } in
    rw h run

retiring : (next : Next) → IsRetiring next → (after : Machine) × (Retires after ≡ next)
retiring (Retires after) h = (after, refl)
retiring Calls h = absurd h
retiring (Raises cause tval) h = absurd h

would_retire : (m : Machine) (v : Inst) → can_fetch m ≡ true → Decodes (word_at_pc m) (Some v) →
    IsRetiring (effect_of m (word_at_pc m) v) → WouldRetire m
would_retire m v h d r =
    let to = retiring (effect_of m (word_at_pc m) v) r in
    (to.0, next_is m v (Retires to.0) h d to.1)

pub step_does : (end : StepEnd) (m after : Machine) (v : Inst) → can_fetch m ≡ true →
    Decodes (word_at_pc m) (Some v) → DoesNext end after (effect_of m (word_at_pc m) v) →
    StepDoes end m after
step_does Retired m after v h d e = next_is m v _ h d (sym e)
step_does Call m after v h d e = next_is m v _ h d (sym e)
step_does (Trap cause tval) m after v h d e = next_is m v _ h d (sym e)
step_does NeedFrames m after v h d e = would_retire m v h d e
step_does Memory m after v h d e = would_retire m v h d e

-- a write that wants frames or memory is allowed
allowed_by : (cause : ℕ) (failing : Option ℕ) (after : Machine) → failing ≡ None →
    IsRetiring (unless_failing cause failing (Retires after))
allowed_by cause None after e = tt
allowed_by cause (Some a) after e = cc

pub store_retires : (m : Machine) (op : StoreOp) (at value n : ℕ) → n ≡ store_size op →
    least_failing (is_writable m) at n ≡ None → IsRetiring (stores m op at value)
store_retires m op at value n size e =
    allowed_by store_page_fault (least_failing (is_writable m) at (store_size op)) _
    (sym (ap (least_failing (is_writable m) at) size) ∙ e)

pub memory_passes : {T : Type 0} (lacks : Bool) (cause : ℕ) (failing : Option ℕ)
    (r : Result T Access) → r ≡ Err access.Memory → EndsWrite lacks cause failing r →
    failing ≡ None
memory_passes lacks cause None r e ends = refl
memory_passes lacks cause (Some a) r e ends = cc

-- ---- which instructions lack frames

-- the written set after what an instruction does
abbrev written_after : Next → (ℕ → Bool) → ℕ → Bool
written_after (Retires after) w = after.written
written_after Calls w = w
written_after (Raises cause tval) w = w

keeps_either : (test : Bool) (a b : Next) (w : ℕ → Bool) → written_after a w ≡ w →
    written_after b w ≡ w → written_after (if test then a else b) w ≡ w
keeps_either true a b w h k = h
keeps_either false a b w h k = k

keeps_unless : (cause : ℕ) (failing : Option ℕ) (next : Next) (w : ℕ → Bool) →
    written_after next w ≡ w → written_after (unless_failing cause failing next) w ≡ w
keeps_unless cause None next w h = h
keeps_unless cause (Some a) next w h = refl

-- one that marks no page lacks none
none_lacks : {P : Type 0} (takes : Bool) (spares : ℕ) (w : ℕ → Bool) (next : Next)
    (after : Machine) → written_after next w ≡ w → next ≡ Retires after →
    LacksFrames takes spares w after.written → P
none_lacks takes spares w next after kept is lacks =
    same_lacks takes spares w after.written (sym (ap (λ n. written_after n w) is) ∙ kept) lacks

jumps_keep : (m : Machine) (target : ℕ) → written_after (jumps m target) m.written ≡ m.written
jumps_keep m target = keeps_either (target % 4 == 0) _ _ m.written refl refl

links_keep : (m : Machine) (rd target : ℕ) →
    written_after (links m rd target) m.written ≡ m.written
links_keep m rd target = keeps_either (target % 4 == 0) _ _ m.written refl refl

-- a store that retires was allowed
stored : (cause : ℕ) (failing : Option ℕ) (to after : Machine) →
    unless_failing cause failing (Retires to) ≡ Retires after → (failing ≡ None) × (after ≡ to)
stored cause None to after e = (refl, cc)
stored cause (Some a) to after e = cc

-- the written set after a store of so many bytes
marks : (m : Machine) (at n value : ℕ) →
    with_written at (length (low_bytes n value)) m.written ≡ with_written at n m.written
marks m at n value = ap (λ k. with_written at k m.written) (length-low_bytes n value)

pub lacks_of : (takes : Bool) (spares : ℕ) (m after : Machine) (word : ℕ) (v : Inst) →
    effect_of m word v ≡ Retires after → LacksFrames takes spares m.written after.written →
    Lacks takes spares m v
lacks_of takes spares m after w (Lui rd n) e l =
    none_lacks takes spares m.written _ after refl e l
lacks_of takes spares m after w (Auipc rd n) e l =
    none_lacks takes spares m.written _ after refl e l
lacks_of takes spares m after w (Jal rd offset) e l =
    none_lacks takes spares m.written _ after (links_keep m rd _) e l
lacks_of takes spares m after w (Jalr rd rs1 imm) e l =
    none_lacks takes spares m.written _ after (links_keep m rd _) e l
lacks_of takes spares m after w (Branch op rs1 rs2 offset) e l =
    none_lacks takes spares m.written _ after
    (keeps_either (is_taken op (register m rs1) (register m rs2)) _ _ m.written
    (jumps_keep m (add m.pc (as_word offset))) refl) e l
lacks_of takes spares m after w (Load op rd rs1 imm) e l =
    none_lacks takes spares m.written _ after
    (keeps_unless load_page_fault
    (least_failing (is_readable m) (add (register m rs1) (as_word imm)) (load_size op)) _ m.written
    refl) e l
lacks_of takes spares m after w (Store op rs1 rs2 imm) e l =
    let at = add (register m rs1) (as_word imm) in
    let n = store_size op in
    let value = register m rs2 in
    let s = stored store_page_fault (least_failing (is_writable m) at n) _ after e in
    let same : after.written ≡ with_written at n m.written =
    ap (λ x. x.written) s.1 ∙ marks m at n value in
    (s.0, lacks_need takes spares m.written at n (rw same at l))
lacks_of takes spares m after w (OpImm op rd rs1 imm) e l =
    none_lacks takes spares m.written _ after refl e l
lacks_of takes spares m after w (Op op rd rs1 rs2) e l =
    none_lacks takes spares m.written _ after refl e l
lacks_of takes spares m after w (OpImmW op rd rs1 imm) e l =
    none_lacks takes spares m.written _ after refl e l
lacks_of takes spares m after w (OpW op rd rs1 rs2) e l =
    none_lacks takes spares m.written _ after refl e l
lacks_of takes spares m after w (Fence rd rs1 n) e l =
    none_lacks takes spares m.written _ after refl e l
lacks_of takes spares m after w Ecall e l = cc
lacks_of takes spares m after w Ebreak e l = cc

-- a store that lacks frames would retire
pub wants_of : (takes : Bool) (spares : ℕ) (m : Machine) (v : Inst) → can_fetch m ≡ true →
    Decodes (word_at_pc m) (Some v) → Lacks takes spares m v → WantsFrames takes spares m
wants_of takes spares m (Lui rd n) h d l = absurd l
wants_of takes spares m (Auipc rd n) h d l = absurd l
wants_of takes spares m (Jal rd offset) h d l = absurd l
wants_of takes spares m (Jalr rd rs1 imm) h d l = absurd l
wants_of takes spares m (Branch op rs1 rs2 offset) h d l = absurd l
wants_of takes spares m (Load op rd rs1 imm) h d l = absurd l
wants_of takes spares m (Store op rs1 rs2 imm) h d l =
    let at = add (register m rs1) (as_word imm) in
    let n = store_size op in
    let value = register m rs2 in
    let bytes = low_bytes n value in
    let to : Machine = record (with_store at bytes m) { pc = next_pc m } in
    let next : Retires to ≡ stores m op at value =
    ap (λ o. unless_failing store_page_fault o (Retires to)) (sym l.0) in
    record {
      after = to;
      retires = next_is m (Store op rs1 rs2 imm) (Retires to) h d next;
      lacks = rw (marks m at n value) (need_lacks takes spares m.written at n l.1);
    }
wants_of takes spares m (OpImm op rd rs1 imm) h d l = absurd l
wants_of takes spares m (Op op rd rs1 rs2) h d l = absurd l
wants_of takes spares m (OpImmW op rd rs1 imm) h d l = absurd l
wants_of takes spares m (OpW op rd rs1 rs2) h d l = absurd l
wants_of takes spares m (Fence rd rs1 n) h d l = absurd l
wants_of takes spares m Ecall h d l = absurd l
wants_of takes spares m Ebreak h d l = absurd l

-- and only such a store wants any
pub of_wants : (takes : Bool) (spares : ℕ) (m : Machine) (v : Inst) → can_fetch m ≡ true →
    Decodes (word_at_pc m) (Some v) → WantsFrames takes spares m → Lacks takes spares m v
of_wants takes spares m v h d w =
    let here = next_is m v (effect_of m (word_at_pc m) v) h d refl in
    lacks_of takes spares m w.after (word_at_pc m) v
    (one_next m (effect_of m (word_at_pc m) v) (Retires w.after) here w.retires) w.lacks

raised_wants : {P : Type 0} (cause tval : ℕ) (after : Machine) →
    Raises cause tval ≡ Retires after → P
raised_wants cause tval after e = cc

-- one that raises an exception wants none
pub raises_wants : {P : Type 0} (takes : Bool) (spares : ℕ) (m : Machine) (cause tval : ℕ) →
    IsNext m (Raises cause tval) → WantsFrames takes spares m → P
raises_wants takes spares m cause tval n w =
    raised_wants cause tval w.after
    (one_next m (Raises cause tval) (Retires w.after) n w.retires)
