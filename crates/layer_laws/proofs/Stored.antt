-- A run changes memory only on pages that it marks as written.
use Rattle.std.proofs.Common.{◌≡◌, ℕ, zero, suc, ◌%◌, ◌^◌, ◌<◌, ◌==◌, ◌&&◌, ◌||◌, Bool, true}
use Rattle.std.proofs.Common.{false, if◌then◌else◌, nat_le, nat_lt, List, [], ◌∷◌, length, Option}
use Rattle.std.proofs.Common.{None, Some, MatchBool, All, refl, sym, ◌∙◌, ap, subst, arith, inl}
use Rattle.std.proofs.Common.{inr}
use Rattle.std.proofs.Math.Path.{fun_ext}
use Rattle.std.proofs.lemmas.Bool.{cases_eq}
use Rattle.std.proofs.lemmas.Bool.Decides.{nat_tests}
use Rattle.std.proofs.lemmas.List.Elements.{All-head, All-tail}
use Rattle.image_model.specs.Pages.{page_of}
use Rattle.instruction_model.specs.declared.instruction.Inst.{Inst}
use Rattle.instruction_model.specs.declared.instruction.Inst.TheVariants.{Lui, Auipc, Jal, Jalr}
use Rattle.instruction_model.specs.declared.instruction.Inst.TheVariants.{Branch, Load, Store}
use Rattle.instruction_model.specs.declared.instruction.Inst.TheVariants.{OpImm, Op, OpImmW, OpW}
use Rattle.instruction_model.specs.declared.instruction.Inst.TheVariants.{Fence, Ecall, Ebreak}
use Rattle.instruction_model.specs.declared.instruction.StoreOp.{StoreOp}
use Rattle.layer_laws.proofs.Validity.{give-valid, packets_of, place-valid, request-valid}
use Rattle.layer_laws.proofs.Validity.{served-valid}
use Rattle.layer_laws.specs.Requests.{IsRequest}
use Rattle.layer_model.specs.Layers.{settled, IsStep, layer_limits}
use Rattle.layer_model.specs.Overlay.{overlay, difference}
use Rattle.layer_model.specs.Replies.{IsServed, Serves, IsContext, request_limits}
use Rattle.machine_model.proofs.Choices.{of_either}
use Rattle.machine_model.proofs.Hypercalls as hypercalls
use Rattle.machine_model.proofs.Instructions as instructions
use Rattle.machine_model.proofs.Ranges.{with_written-none, with_written-next}
use Rattle.machine_model.proofs.Values.{add-lt}
use Rattle.machine_model.specs.Hypercall.{Outcome, outcome, after_call, after_result}
use Rattle.machine_model.specs.Hypercall.{after_packet, fits_console, console_writes, waits}
use Rattle.machine_model.specs.Hypercall.{fits_net, net_writes, net_reads, clock_read}
use Rattle.machine_model.specs.Hypercall.{console_write, wait, net_write, net_read, halt}
use Rattle.machine_model.specs.Hypercall as hyper
use Rattle.machine_model.specs.Instruction.{Next, IsNext, Executes, can_fetch, word_at_pc, effect}
use Rattle.machine_model.specs.Instruction.{effect_of, writes, passes, jumps, links, loads}
use Rattle.machine_model.specs.Instruction.{stores, unless_failing, is_taken, load_size}
use Rattle.machine_model.specs.Instruction.{store_size, load_page_fault, store_page_fault}
use Rattle.machine_model.specs.Instruction.{instruction_page_fault}
use Rattle.machine_model.specs.Instruction as instruction
use Rattle.machine_model.specs.Machine.{Machine, register, address, distance, with_bytes}
use Rattle.machine_model.specs.Machine.{with_written, with_store, is_readable, is_writable}
use Rattle.machine_model.specs.Machine.{least_failing, low_bytes, range_passes}
use Rattle.machine_model.specs.Run.{Limits, End, Turn, Goes, Stops, IsTurn, turn_of, turn_by}
use Rattle.machine_model.specs.Run.{After, IsStop, By_trigger, By_budget, By_turn, Runs, IsRun}
use Rattle.machine_model.specs.Run.{is_empty, give}
use Rattle.machine_model.specs.Valid.{IsValid}
use Rattle.machine_model.specs.declared.stop.Stop.TheVariants.{Trigger, Rest}
use Rattle.plan_model.specs.Outline.{Outline, IsPlan}
use Rattle.space_api.specs.declared.given.Given.{Given}

-- on the way from the one machine to the other pages stay marked, and bytes change only on those
-- that are marked at its end
pub record Leaves (m after : Machine) : Type 0 where
  pub marks : (page : ℕ) → after.written page ≡ false → m.written page ≡ false
  pub bytes : (a : ℕ) → after.written (page_of a) ≡ false → after.memory a ≡ m.memory a

pub leaves_all : (m : Machine) → Leaves m m
leaves_all m = record { marks = λ page h. h; bytes = λ a h. refl }

pub leaves_more : (a b c : Machine) → Leaves a b → Leaves b c → Leaves a c
leaves_more a b c p q = record {
  marks = λ page h. p.marks page (q.marks page h);
  bytes = λ at h. q.bytes at h ∙ p.bytes at (q.marks (page_of at) h);
}

-- ---- stores

left_false : (a b : Bool) → (a || b) ≡ false → a ≡ false
left_false true b h = h
left_false false b h = refl

right_false : (a b : Bool) → (a || b) ≡ false → b ≡ false
right_false true b h = cc
right_false false b h = h

marks_before : (written : ℕ → Bool) (at n page : ℕ) → with_written at n written page ≡ false
    → written page ≡ false
marks_before written at zero page h = sym (with_written-none written at page) ∙ h
marks_before written at (suc n) page h =
    marks_before written at n page (left_false (with_written at n written page)
    (page == page_of (address at n)) (sym (with_written-next written at n page) ∙ h))

unmarked : (written : ℕ → Bool) (at n page i : ℕ) → with_written at n written page ≡ false
    → i < n → page ≡ page_of (address at i) → ⊥
unmarked written at zero page i h lt here = absurd (omega arith)
unmarked written at (suc n) page i h lt here =
    let both = sym (with_written-next written at n page) ∙ h in
    elim (cases_eq i n) [
      | inl same ↦ (
          let last = right_false (with_written at n written page) (page == page_of (address at n))
          both in
          let e = here ∙ ap (λ k. page_of (address at k)) same in
          differs page (page_of (address at n)) last e)
      | inr other ↦ unmarked written at n page i
          (left_false (with_written at n written page) (page == page_of (address at n)) both)
          (omega arith) here
    ] where
      differs : (a b : ℕ) → (a == b) ≡ false → a ≡ b → ⊥
      differs a b h e = grind (arith, nat_tests)

from_distance : (at a n : ℕ) → at < 2 ^ 64 → n < 2 ^ 64 → a < 2 ^ 64 → distance at a ≡ n
    → a ≡ address at n
from_distance at a n p q r e = omega arith

distance-lt : (at a : ℕ) → distance at a < 2 ^ 64
distance-lt at a = omega arith

within : (a d n : ℕ) → (nat_lt a (2 ^ 64) && nat_lt d n) ≡ true → (a < 2 ^ 64) × (d < n)
within a d n h = (grind (arith, nat_tests), grind (arith, nat_tests))

store_bytes : (at : ℕ) (bytes : List ℕ) (memory : ℕ → ℕ) (written : ℕ → Bool) (a : ℕ)
    → at < 2 ^ 64 → with_written at (length bytes) written (page_of a) ≡ false
    → with_bytes at bytes memory a ≡ memory a
store_bytes at bytes memory written a fits h =
    of_either (λ byte. byte ≡ memory a)
    (nat_lt a (2 ^ 64) && nat_lt (distance at a) (length bytes)) _ _
    (λ inside.
    let w = within a (distance at a) (length bytes) inside in
    let here = from_distance at a (distance at a) fits (distance-lt at a) w.0 refl in
    absurd (unmarked written at (length bytes) (page_of a) (distance at a) h w.1
    (ap page_of here)))
    (λ outside. refl)

pub leaves_store : (m : Machine) (at : ℕ) (bytes : List ℕ) → at < 2 ^ 64
    → Leaves m (with_store at bytes m)
leaves_store m at bytes fits = record {
  marks = λ page h. marks_before m.written at (length bytes) page h;
  bytes = λ a h. store_bytes at bytes m.memory m.written a fits h;
}

leaves_same : (m after : Machine) → after.written ≡ m.written → after.memory ≡ m.memory
    → Leaves m after
leaves_same m after written memory = record {
  marks = λ page h. ap (λ f. f page) (sym written) ∙ h;
  bytes = λ a h. ap (λ f. f a) memory;
}

-- ---- instructions

abbrev Does : Machine → Next → Type 0
Does m (instruction.Retires after) = Leaves m after
Does m instruction.Calls = Unit {0}
Does m (instruction.Raises cause tval) = Unit {0}

does_unless : (m : Machine) (cause : ℕ) (o : Option ℕ) (next : Next) → Does m next
    → Does m (unless_failing cause o next)
does_unless m cause None next h = h
does_unless m cause (Some a) next h = tt

writes_leaves : (m : Machine) (rd value : ℕ) → Does m (writes m rd value)
writes_leaves m rd value = leaves_same m _ refl refl

passes_leaves : (m : Machine) → Does m (passes m)
passes_leaves m = leaves_same m _ refl refl

jumps_leaves : (m : Machine) (target : ℕ) → Does m (jumps m target)
jumps_leaves m target =
    of_either (Does m) (target % 4 == 0) _ _ (λ e. leaves_same m _ refl refl) (λ e. tt)

links_leaves : (m : Machine) (rd target : ℕ) → Does m (links m rd target)
links_leaves m rd target =
    of_either (Does m) (target % 4 == 0) _ _ (λ e. leaves_same m _ refl refl) (λ e. tt)

stores_leaves : (m : Machine) (op : StoreOp) (at value : ℕ) → at < 2 ^ 64
    → Does m (stores m op at value)
stores_leaves m op at value fits =
    let bytes = low_bytes (store_size op) value in
    does_unless m store_page_fault (least_failing (is_writable m) at (store_size op)) _
    (leaves_more m (with_store at bytes m) _ (leaves_store m at bytes fits)
    (leaves_same (with_store at bytes m) _ refl refl))

effect_of_leaves : (m : Machine) (w : ℕ) (i : Inst) → Does m (effect_of m w i)
effect_of_leaves m w (Lui rd n) = writes_leaves m rd _
effect_of_leaves m w (Auipc rd n) = writes_leaves m rd _
effect_of_leaves m w (Jal rd offset) = links_leaves m rd _
effect_of_leaves m w (Jalr rd rs1 imm) = links_leaves m rd _
effect_of_leaves m w (Branch op rs1 rs2 offset) =
    of_either (Does m) (is_taken op (register m rs1) (register m rs2)) _ _
    (λ e. jumps_leaves m _) (λ e. passes_leaves m)
effect_of_leaves m w (Load op rd rs1 imm) =
    does_unless m load_page_fault (least_failing (is_readable m) _ (load_size op)) _
    (writes_leaves m rd _)
effect_of_leaves m w (Store op rs1 rs2 imm) =
    stores_leaves m op _ (register m rs2) (add-lt (register m rs1) _)
effect_of_leaves m w (OpImm op rd rs1 imm) = writes_leaves m rd _
effect_of_leaves m w (Op op rd rs1 rs2) = writes_leaves m rd _
effect_of_leaves m w (OpImmW op rd rs1 imm) = writes_leaves m rd _
effect_of_leaves m w (OpW op rd rs1 rs2) = writes_leaves m rd _
effect_of_leaves m w (Fence rd rs1 n) = passes_leaves m
effect_of_leaves m w Ecall = tt
effect_of_leaves m w Ebreak = tt

effect_leaves : (m : Machine) (w : ℕ) (o : Option Inst) → Does m (effect m w o)
effect_leaves m w None = tt
effect_leaves m w (Some i) = effect_of_leaves m w i

next_by : (m : Machine) (next : Next) (test : Bool)
    → MatchBool test (Executes m next)
    (next ≡ instruction.Raises instruction_page_fault m.pc) → Does m next
next_by m next true n =
    subst (Does m) (sym n.next_is) (effect_leaves m (word_at_pc m) n.instruction)
next_by m next false n = subst (Does m) (sym n) tt

-- ---- hypercalls

abbrev ComesTo : Machine → Outcome → Type 0
ComesTo m (hyper.Done after) = Leaves m after
ComesTo m (hyper.Rests after) = Leaves m after
ComesTo m (hyper.Halts code after) = Leaves m after
ComesTo m (hyper.Unknown number) = Unit {0}

result_leaves : (m : Machine) (result : ℕ) → Leaves m (after_result result m)
result_leaves m result = leaves_same m _ refl refl

console_leaves : (m : Machine) (at size : ℕ) → ComesTo m (console_writes m at size)
console_leaves m at size =
    of_either (ComesTo m) (fits_console m at size) _ _ (λ e. leaves_same m _ refl refl)
    (λ e. result_leaves m _)

waits_leaves : (m : Machine) (queue : List (List ℕ)) → ComesTo m (waits m queue)
waits_leaves m [] = leaves_same m _ refl refl
waits_leaves m (packet ∷ rest) = result_leaves m _

net_leaves : (m : Machine) (at size : ℕ) → ComesTo m (net_writes m at size)
net_leaves m at size =
    of_either (ComesTo m) (fits_net m at size) _ _ (λ e. leaves_same m _ refl refl)
    (λ e. result_leaves m _)

reads_leaves : (m : Machine) (at room : ℕ) (queue : List (List ℕ)) → at < 2 ^ 64
    → ComesTo m (net_reads m at room queue)
reads_leaves m at room [] fits = result_leaves m _
reads_leaves m at room (packet ∷ rest) fits =
    of_either (ComesTo m)
    (nat_le (length packet) room && range_passes (is_writable m) at (length packet))
    (hyper.Done (after_packet m at packet rest)) (hyper.Done (after_result hyper.invalid m))
    (λ e. leaves_more m (with_store at packet m) (after_packet m at packet rest)
    (leaves_store m at packet fits) (leaves_same (with_store at packet m) _ refl refl))
    (λ e. result_leaves m hyper.invalid)

outcome_leaves : (m : Machine) (clock : ℕ) → IsValid m → ComesTo m (outcome m clock)
outcome_leaves m clock v =
    let is = λ (number : ℕ). register m 17 == number in
    of_either (ComesTo m) (is clock_read) _ _ (λ e. result_leaves m clock)
    (λ e. of_either (ComesTo m) (is console_write) _ _
    (λ e. console_leaves m (register m 10) (register m 11))
    (λ e. of_either (ComesTo m) (is wait) _ _ (λ e. waits_leaves m m.queue)
    (λ e. of_either (ComesTo m) (is net_write) _ _
    (λ e. net_leaves m (register m 10) (register m 11))
    (λ e. of_either (ComesTo m) (is net_read) _ _
    (λ e. reads_leaves m (register m 10) (register m 11) m.queue (v.words 10))
    (λ e. of_either (ComesTo m) (is halt) _ _ (λ e. leaves_same m _ refl refl) (λ e. tt))))))

-- ---- turns and runs

-- the machine after a turn is valid, and was left but for marked pages
abbrev Turns : Machine → Turn → Type 0
Turns m (Goes after) = IsValid after × Leaves m after
Turns m (Stops stop counted after) = IsValid after × Leaves m after

turns_by : (m : Machine) (o : Outcome) → IsValid m → hypercalls.Keeps o → ComesTo m o
    → Turns m (turn_by m o)
turns_by m (hyper.Done after) v h l = (h, l)
turns_by m (hyper.Rests after) v h l = (h, l)
turns_by m (hyper.Halts code after) v h l = (h, l)
turns_by m (hyper.Unknown number) v h l = (v, leaves_all m)

turns_of : (m : Machine) (clock : ℕ) (next : Next) → clock < 2 ^ 64 → IsValid m
    → instructions.Keeps next → Does m next → Turns m (turn_of m clock next)
turns_of m clock (instruction.Retires after) fits v h l = (h, l)
turns_of m clock (instruction.Raises cause tval) fits v h l = (v, leaves_all m)
turns_of m clock instruction.Calls fits v h l =
    turns_by m (outcome m clock) v (hypercalls.outcome-keeps m clock fits v)
    (outcome_leaves m clock v)

turn_leaves : (m : Machine) (clock : ℕ) (turn : Turn) → clock < 2 ^ 64 → IsValid m
    → IsTurn m clock turn → Turns m turn
turn_leaves m clock turn fits v t =
    subst (Turns m) (sym t.turn_is) (turns_of m clock t.next fits v
    (instructions.next-keeps m t.next v t.is_next) (next_by m t.next (can_fetch m) t.is_next))

after_leaves : (clock n : ℕ) (m after : Machine) → clock < 2 ^ 64 → IsValid m
    → After clock n m after → IsValid after × Leaves m after
after_leaves clock zero m after fits v same =
    subst (λ x. IsValid x × Leaves m x) same (v, leaves_all m)
after_leaves clock (suc n) m after fits v (mid, before, last) =
    let b = after_leaves clock n m mid fits v before in
    let l = turn_leaves mid clock (Goes after) fits b.0 last in
    (l.0, leaves_more m mid after b.1 l.1)

stop_leaves : (clock : ℕ) (limits : Limits) (number : ℕ) (m : Machine) (end : End)
    → clock < 2 ^ 64 → IsValid m → IsStop clock limits number m end → Leaves m end.machine
stop_leaves clock limits number m end fits v (By_trigger p) = leaves_all m
stop_leaves clock limits number m end fits v (By_budget p e) = leaves_all m
stop_leaves clock limits number m end fits v
    (By_turn {stop = stop} {counted = counted} {after = after} p e t) =
    (turn_leaves m clock (Stops stop counted after) fits v t).1

run_by : (clock : ℕ) (limits : Limits) (m : Machine) (end : End) (rests : Bool)
    → clock < 2 ^ 64 → IsValid m
    → MatchBool rests (end ≡ record { stop = Rest; number = 0; machine = m })
    (Runs clock limits m end) → Leaves m end.machine
run_by clock limits m end true fits v is =
    subst (λ (e : End). Leaves m e.machine) (sym is) (leaves_all m)
run_by clock limits m end false fits v run =
    let b = after_leaves clock run.number m run.at fits v run.reached in
    leaves_more m run.at end.machine b.1
    (stop_leaves clock limits run.number run.at end fits b.0 run.stopped)

pub run_leaves : (clock : ℕ) (limits : Limits) (m : Machine) (end : End) → clock < 2 ^ 64
    → IsValid m → IsRun clock limits m end → Leaves m end.machine
run_leaves clock limits m end fits v run =
    run_by clock limits m end (m.resting && is_empty m.queue) fits v run

-- ---- laws

not_false : (a b : Bool) → (b ≡ false → a ≡ false) → a ≡ true → b ≡ true
not_false a true f h = refl
not_false a false f h = let e = f refl in cc

pub run_marks : (clock : ℕ) (limits : Limits) (m : Machine) (end : End) (page : ℕ)
    → clock < 2 ^ 64 → IsValid m → IsRun clock limits m end → m.written page ≡ true
    → end.machine.written page ≡ true
run_marks clock limits m end page fits v run h =
    not_false (m.written page) (end.machine.written page)
    ((run_leaves clock limits m end fits v run).marks page) h

pub run_bytes : (clock : ℕ) (limits : Limits) (m : Machine) (end : End) (a : ℕ)
    → clock < 2 ^ 64 → IsValid m → IsRun clock limits m end
    → end.machine.written (page_of a) ≡ false → end.machine.memory a ≡ m.memory a
run_bytes clock limits m end a fits v run h =
    (run_leaves clock limits m end fits v run).bytes a h

at_address : (marked : Bool) (now was : ℕ) → (marked ≡ false → now ≡ was)
    → now ≡ (if marked then now else was)
at_address true now was f = refl
at_address false now was f = f refl

pub leaves_overlay : (m after : Machine) → Leaves m after
    → after.memory ≡ overlay m.memory (difference after)
leaves_overlay m after l = fun_ext (λ a.
    at_address (after.written (page_of a)) (after.memory a) (m.memory a) (l.bytes a))

pub run_overlay : (clock : ℕ) (limits : Limits) (m : Machine) (end : End) → clock < 2 ^ 64
    → IsValid m → IsRun clock limits m end
    → end.machine.memory ≡ overlay m.memory (difference end.machine)
run_overlay clock limits m end fits v run =
    leaves_overlay m end.machine (run_leaves clock limits m end fits v run)

pub layer_overlay : (plan : Outline) (k : ℕ) (below after : Machine) → IsPlan plan
    → IsValid below → (step : IsStep plan k below after)
    → after.memory ≡ overlay below.memory (difference step.reached)
layer_overlay plan k below after is v step =
    ap (λ (m : Machine). m.memory) step.after_is
    ∙ run_overlay 0 (layer_limits plan step.layer) (give below step.layer.packets)
    (record { stop = Trigger; number = step.counted; machine = step.reached }) (omega arith)
    (give-valid below step.layer.packets v (packets_of plan k step.layer is step.layer_is))
    step.run

-- ---- contexts

settled_leaves : (m after kept : Machine) → kept ≡ settled after → Leaves m after → Leaves m kept
settled_leaves m after kept same l = subst (Leaves m) (sym same)
    (leaves_more m after _ l (leaves_same after _ refl refl))

pub served_leaves : (plan : Outline) (m : Machine) (given : Given) (after : Machine) → IsValid m
    → IsRequest given → IsServed plan m given after → Leaves m after
served_leaves plan m given after v is served =
    settled_leaves m served.rested after served.after_is
    (leaves_more m (give m (given.packet ∷ [])) served.rested
    (leaves_same m (give m (given.packet ∷ [])) refl refl)
    (run_leaves given.clock (request_limits plan) (give m (given.packet ∷ []))
    (record { stop = Rest; number = served.counted; machine = served.rested }) is.clock
    (request-valid m given v is) served.run))

serves_leaves : (plan : Outline) (served : List Given) (m after : Machine) → IsValid m
    → All IsRequest served → Serves plan served m after → Leaves m after
serves_leaves plan [] m after v all same = subst (Leaves m) same (leaves_all m)
serves_leaves plan (given ∷ more) m after v all (mid, first, rest) =
    let one = All-head IsRequest given more all in
    leaves_more m mid after (served_leaves plan m given mid v one first)
    (serves_leaves plan more mid after (served-valid plan m given mid v one first)
    (All-tail IsRequest given more all) rest)

pub context_overlay : (plan : Outline) (start : ℕ) (place : Option ℕ) (served : List Given)
    (m : Machine) → IsPlan plan → All IsRequest served
    → (context : IsContext plan start place served m)
    → m.memory ≡ overlay context.base.memory (difference m)
context_overlay plan start place served m is all context =
    leaves_overlay context.base m (serves_leaves plan served context.base m
    (place-valid plan start place context.base is context.stands) all context.serves)
