-- A machine has one run.
use Rattle.std.proofs.Common.{◌≡◌, ◌≢◌, ℕ, zero, suc, ◌+◌, ◌<◌, Bool, true, false, ◌&&◌, Option, Some, None, refl, sym, ap, ◌∙◌, subst, arith, MatchBool, add-zero, add-suc}
use Rattle.instruction_model.specs.declared.instruction.Inst.{Inst}
use Rattle.machine_model.specs.declared.stop.Stop.{Stop}
use Rattle.machine_model.specs.declared.stop.Stop.TheVariants.{Exception, Rest}
use Rattle.machine_model.specs.Instruction.{Next, IsNext, Executes, can_fetch, word_at_pc, effect}
use Rattle.machine_model.specs.Instruction as instruction
use Rattle.instruction_model.specs.InstructionWord.{Decodes}
use Rattle.instruction_model.proofs.Completeness.{one_reading}
use Rattle.machine_model.specs.Machine.{Machine}
use Rattle.machine_model.specs.Hypercall.{Outcome, outcome}
use Rattle.machine_model.specs.Hypercall as hyper
use Rattle.machine_model.specs.Run.{Limits, End, Turn, Goes, Stops, IsTurn, turn_of, turn_by, After, at_trigger, IsStop, By_trigger, By_budget, By_turn, Runs, IsRun, is_empty}

-- a word decodes in one way
pub one_decoding : (w : ℕ) (a b : Option Inst) → Decodes w a → Decodes w b → a ≡ b
one_decoding w None None p q = refl
one_decoding w None (Some v) p q = absurd (p v q)
one_decoding w (Some u) None p q = absurd (q u p)
one_decoding w (Some u) (Some v) p q = ap Some (one_reading w u v p q)

next_by_test : (m : Machine) (a b : Next) (test : Bool) →
    MatchBool test (Executes m a) (a ≡ instruction.Raises instruction.instruction_page_fault m.pc) →
    MatchBool test (Executes m b) (b ≡ instruction.Raises instruction.instruction_page_fault m.pc) →
    a ≡ b
next_by_test m a b true p q =
    let w = word_at_pc m in
    let same = one_decoding w p.instruction q.instruction p.decoded q.decoded in
    p.next_is ∙ ap (effect m w) same ∙ sym q.next_is
next_by_test m a b false p q = p ∙ sym q

-- an instruction does one thing
pub one_next : (m : Machine) (a b : Next) → IsNext m a → IsNext m b → a ≡ b
one_next m a b p q = next_by_test m a b (can_fetch m) p q

-- a turn comes out in one way
pub one_turn : (m : Machine) (clock : ℕ) (a b : Turn) → IsTurn m clock a → IsTurn m clock b → a ≡ b
one_turn m clock a b p q =
    p.turn_is ∙ ap (turn_of m clock) (one_next m p.next q.next p.is_next q.is_next) ∙ sym q.turn_is

goes_to : (a b : Machine) → Goes a ≡ Goes b → a ≡ b
goes_to a b e = cc

-- so many instructions lead to one machine
pub one_after : (clock n : ℕ) (m a b : Machine) → After clock n m a → After clock n m b → a ≡ b
one_after clock zero m a b p q = sym p ∙ q
one_after clock (suc n) m a b (mid, before, last) (mid', before', last') =
    let same = one_after clock n m mid mid' before before' in
    let other = subst (λ x. IsTurn x clock (Goes b)) (sym same) last' in
    goes_to a b (one_turn mid clock (Goes a) (Goes b) last other)

-- instructions add up
pub after_add : (clock n k : ℕ) (a b c : Machine) → After clock n a b → After clock k b c →
    After clock (n + k) a c
after_add clock n zero a b c p q = rw add-zero (subst (After clock n a) q p)
after_add clock n (suc k) a b c p (mid, before, last) =
    rw add-suc (mid, after_add clock n k a b mid p before, last)

-- and can be taken apart
pub after_split : (clock n k : ℕ) (a c : Machine) → After clock (n + k) a c →
    (b : Machine) × After clock n a b × After clock k b c
after_split clock n zero a c p = (c, rw add-zero at p, refl)
after_split clock n (suc k) a c p =
    let whole : After clock (suc (n + k)) a c = rw add-suc at p in
    let parts = after_split clock n k a whole.0 whole.1 in
    (parts.0, parts.1, (whole.0, parts.2, whole.2))

-- ---- stops

true_false : {P : Type 0} {b : Bool} → b ≡ true → b ≡ false → P
true_false p q = cc

goes_or_stops : {P : Type 0} (after : Machine) (stop : Stop) (counted : ℕ) (then : Machine) →
    Goes after ≡ Stops stop counted then → P
goes_or_stops after stop counted then e = cc

abbrev end_by : (number : ℕ) (m : Machine) → Turn → End → End
end_by number m (Goes after) other = other
end_by number m (Stops stop counted after) other =
    record { stop = stop; number = number + counted; machine = after }

-- at one number of instructions one stop is met
pub one_stop : (clock : ℕ) (limits : Limits) (number : ℕ) (m : Machine) (a b : End) →
    IsStop clock limits number m a → IsStop clock limits number m b → a ≡ b
one_stop clock limits number m a b (By_trigger p) (By_trigger q) = refl
one_stop clock limits number m a b (By_trigger p) (By_budget q r) = true_false p q
one_stop clock limits number m a b (By_trigger p) (By_turn q r t) = true_false p q
one_stop clock limits number m a b (By_budget p s) (By_trigger q) = true_false q p
one_stop clock limits number m a b (By_budget p s) (By_budget q r) = refl
one_stop clock limits number m a b (By_budget p s) (By_turn q r t) = absurd (r s)
one_stop clock limits number m a b (By_turn p s t) (By_trigger q) = true_false q p
one_stop clock limits number m a b (By_turn p s t) (By_budget q r) = absurd (s r)
one_stop clock limits number m a b (By_turn {stop = x} {counted = i} {after = y} p s t)
    (By_turn {stop = z} {counted = j} {after = w} q r u) =
    let here : End = record { stop = x; number = number; machine = m } in
    ap (λ turn. end_by number m turn here) (one_turn m clock (Stops x i y) (Stops z j w) t u)

-- where the next instruction goes on, no stop is met but by the trigger and the budget
pub no_stop : (clock : ℕ) (limits : Limits) (number : ℕ) (m after : Machine) (other : End) →
    at_trigger limits.trigger number m ≡ false → number ≢ limits.budget →
    IsTurn m clock (Goes after) → IsStop clock limits number m other → ⊥
no_stop clock limits number m after other trigger budget goes (By_trigger p) = true_false p trigger
no_stop clock limits number m after other trigger budget goes (By_budget p s) = budget s
no_stop clock limits number m after other trigger budget goes
    (By_turn {stop = x} {counted = i} {after = y} p s t) =
    goes_or_stops after x i y (one_turn m clock (Goes after) (Stops x i y) goes t)

end_same : (clock : ℕ) (limits : Limits) (m : Machine) (a b : End) (p : Runs clock limits m a)
    (q : Runs clock limits m b) → p.number ≡ q.number → a ≡ b
end_same clock limits m a b p q e =
    let there : After clock p.number m q.at = subst (λ n. After clock n m q.at) (sym e) q.reached in
    let same = one_after clock p.number m p.at q.at p.reached there in
    let here = subst (λ x. IsStop clock limits q.number x b) (sym same) q.stopped in
    let then = subst (λ n. IsStop clock limits n p.at b) (sym e) here in
    one_stop clock limits p.number p.at a b p.stopped then

-- a run ends in one way
pub one_run : (clock : ℕ) (limits : Limits) (m : Machine) (a b : End) →
    Runs clock limits m a → Runs clock limits m b → a ≡ b
one_run clock limits m a b p q =
    let not_before : p.number < q.number → ⊥ =
    λ lt. q.least p.number lt p.at a p.reached p.stopped in
    let not_behind : q.number < p.number → ⊥ =
    λ lt. p.least q.number lt q.at b q.reached q.stopped in
    end_same clock limits m a b p q (omega arith)

rest_or_run : (clock : ℕ) (limits : Limits) (m : Machine) (a b : End) (resting : Bool) →
    let rest : End = record { stop = Rest; number = 0; machine = m } in
    MatchBool resting (a ≡ rest) (Runs clock limits m a) →
    MatchBool resting (b ≡ rest) (Runs clock limits m b) → a ≡ b
rest_or_run clock limits m a b true p q = p ∙ sym q
rest_or_run clock limits m a b false p q = one_run clock limits m a b p q

pub one_end : (clock : ℕ) (limits : Limits) (m : Machine) (a b : End) →
    IsRun clock limits m a → IsRun clock limits m b → a ≡ b
one_end clock limits m a b p q = rest_or_run clock limits m a b (m.resting && is_empty m.queue) p q

-- where a run goes on after so many instructions, it has met no stop there
pub goes_on : (clock : ℕ) (limits : Limits) (number : ℕ) (start m after : Machine) →
    After clock number start m → at_trigger limits.trigger number m ≡ false →
    number ≢ limits.budget → IsTurn m clock (Goes after) → (mid : Machine) (other : End) →
    After clock number start mid → IsStop clock limits number mid other → ⊥
goes_on clock limits number start m after reached trigger budget goes mid other there stopped =
    let same = one_after clock number start mid m there reached in
    let here = subst (λ x. IsStop clock limits number x other) same stopped in
    no_stop clock limits number m after other trigger budget goes here

-- ---- exceptions

abbrev stopped_machine : Machine → Turn → Machine
stopped_machine m (Goes after) = m
stopped_machine m (Stops stop counted after) = after

abbrev stopped_count : Turn → ℕ
stopped_count (Goes after) = 0
stopped_count (Stops stop counted after) = counted

exception_by : (m : Machine) (called : Outcome) (cause pc tval counted : ℕ) (after : Machine) →
    Stops (Exception cause pc tval) counted after ≡ turn_by m called →
    (after ≡ m) × (counted ≡ 0)
exception_by m (hyper.Done x) cause pc tval counted after e = cc
exception_by m (hyper.Rests x) cause pc tval counted after e = cc
exception_by m (hyper.Halts code x) cause pc tval counted after e = cc
exception_by m (hyper.Unknown n) cause pc tval counted after e =
    (ap (stopped_machine m) e, ap stopped_count e)

exception_turn : (m : Machine) (clock : ℕ) (next : Next) (cause pc tval counted : ℕ)
    (after : Machine) → Stops (Exception cause pc tval) counted after ≡ turn_of m clock next →
    (after ≡ m) × (counted ≡ 0)
exception_turn m clock (instruction.Retires x) cause pc tval counted after e = cc
exception_turn m clock instruction.Calls cause pc tval counted after e =
    exception_by m (outcome m clock) cause pc tval counted after e
exception_turn m clock (instruction.Raises c v) cause pc tval counted after e =
    (ap (stopped_machine m) e, ap stopped_count e)

-- an exception leaves the machine as it was, and isn't counted
pub exceptions_keep : (m : Machine) (clock cause pc tval counted : ℕ) (after : Machine) →
    IsTurn m clock (Stops (Exception cause pc tval) counted after) → (after ≡ m) × (counted ≡ 0)
exceptions_keep m clock cause pc tval counted after t =
    exception_turn m clock t.next cause pc tval counted after t.turn_is
