-- Each run of a valid machine has an end, which is a valid machine.
use Rattle.std.proofs.Common.{◌≡◌, ◌≢◌, ℕ, zero, suc, ◌+◌, ◌^◌, ◌<◌, Bool, true, false, ◌&&◌, MatchBool, refl, arith}
use Rattle.instruction_model.specs.Reading.{reading}
use Rattle.instruction_model.proofs.Completeness.{reading-decodes}
use Rattle.machine_model.specs.declared.stop.Stop.TheVariants.{Rest, Budget, Trigger}
use Rattle.machine_model.specs.Hypercall.{Outcome, outcome}
use Rattle.machine_model.specs.Hypercall as hyper
use Rattle.machine_model.specs.Instruction.{Next, IsNext, Executes, can_fetch, word_at_pc, effect, instruction_page_fault}
use Rattle.machine_model.specs.Instruction as instruction
use Rattle.machine_model.specs.Machine.{Machine}
use Rattle.machine_model.specs.Run.{Limits, End, Turn, Goes, Stops, IsTurn, turn_of, turn_by, After, at_trigger, IsStop, By_trigger, By_budget, By_turn, Runs, IsRun, is_empty}
use Rattle.machine_model.specs.Valid.{IsValid}
use Rattle.machine_model.proofs.Hypercalls as hypercalls
use Rattle.machine_model.proofs.Instructions as instructions
use Rattle.machine_model.proofs.Ranges.{each_more}
use Rattle.machine_model.proofs.Runs.{goes_on}

-- ---- a next turn

next_by : (m : Machine) (test : Bool) → IsValid m →
    (next : Next)
    × MatchBool test (Executes m next) (next ≡ instruction.Raises instruction_page_fault m.pc)
next_by m true v =
    let w = word_at_pc m in (
      effect m w (reading w),
      record {
        instruction = reading w;
        decoded = reading-decodes w (instructions.read-lt m m.pc 4 v);
        next_is = refl;
      },
    )
next_by m false v = (instruction.Raises instruction_page_fault m.pc, refl)

pub some_next : (m : Machine) → IsValid m → (next : Next) × IsNext m next
some_next m v = next_by m (can_fetch m) v

-- the machine after a turn is valid
abbrev Keeps : Turn → Type 0
Keeps (Goes after) = IsValid after
Keeps (Stops stop counted after) = IsValid after

by-keeps : (m : Machine) (o : Outcome) → IsValid m → hypercalls.Keeps o → Keeps (turn_by m o)
by-keeps m (hyper.Done after) v h = h
by-keeps m (hyper.Rests after) v h = h
by-keeps m (hyper.Halts code after) v h = h
by-keeps m (hyper.Unknown number) v h = v

of-keeps : (m : Machine) (clock : ℕ) (next : Next) → clock < 2 ^ 64 → IsValid m →
    instructions.Keeps next → Keeps (turn_of m clock next)
of-keeps m clock (instruction.Retires after) fits v h = h
of-keeps m clock (instruction.Raises cause tval) fits v h = v
of-keeps m clock instruction.Calls fits v h =
    by-keeps m (outcome m clock) v (hypercalls.outcome-keeps m clock fits v)

some_turn : (m : Machine) (clock : ℕ) → clock < 2 ^ 64 → IsValid m →
    (turn : Turn) × IsTurn m clock turn × Keeps turn
some_turn m clock fits v =
    let n = some_next m v in (
      turn_of m clock n.0,
      record { next = n.0; is_next = n.1; turn_is = refl },
      of-keeps m clock n.0 fits v (instructions.next-keeps m n.0 v n.1),
    )

-- ---- up to the first stop

abbrev Ends : ℕ → Limits → Machine → Type 0
Ends clock limits start = (end : End) × Runs clock limits start end × IsValid end.machine

-- no stop is met at a number
abbrev NoStop : ℕ → Limits → Machine → ℕ → Type 0
NoStop clock limits start number =
    (mid : Machine) (other : End) → After clock number start mid →
    IsStop clock limits number mid other → ⊥

ends_here : (clock : ℕ) (limits : Limits) (start m : Machine) (number : ℕ) (end : End) →
    After clock number start m →
    ((earlier : ℕ) → earlier < number → NoStop clock limits start earlier) →
    IsStop clock limits number m end → IsValid end.machine → Ends clock limits start
ends_here clock limits start m number end reached least stopped v =
    let run : Runs clock limits start end = record {
      number = number;
      at = m;
      reached = reached;
      stopped = stopped;
      least = least;
    } in (end, run, v)

-- by the machine's turn, where neither trigger nor budget stops it
by_turn : (clock : ℕ) (limits : Limits) (start m : Machine) (number : ℕ) (turn : Turn) →
    After clock number start m →
    ((earlier : ℕ) → earlier < number → NoStop clock limits start earlier) →
    at_trigger limits.trigger number m ≡ false → number ≢ limits.budget →
    IsTurn m clock turn → Keeps turn →
    ((after : Machine) → After clock (suc number) start after → IsValid after →
    ((earlier : ℕ) → earlier < suc number → NoStop clock limits start earlier) →
    Ends clock limits start) → Ends clock limits start
by_turn clock limits start m number (Goes after) reached least trigger budget t v on =
    let here = goes_on clock limits number start m after reached trigger budget t in
    on after (m, reached, t) v (each_more (NoStop clock limits start) number least here)
by_turn clock limits start m number (Stops stop counted after) reached least trigger budget t v on =
    ends_here clock limits start m number
    (record { stop = stop; number = number + counted; machine = after }) reached least
    (By_turn trigger budget t) v

by_trigger : (clock : ℕ) (limits : Limits) (start m : Machine) (number : ℕ) (test : Bool) →
    at_trigger limits.trigger number m ≡ test → After clock number start m → IsValid m →
    ((earlier : ℕ) → earlier < number → NoStop clock limits start earlier) →
    (test ≡ false → Ends clock limits start) → Ends clock limits start
by_trigger clock limits start m number true e reached v least on =
    ends_here clock limits start m number (record { stop = Trigger; number = number; machine = m })
    reached least (By_trigger e) v
by_trigger clock limits start m number false e reached v least on = on refl

ends_from : (clock : ℕ) (limits : Limits) (start : Machine) → clock < 2 ^ 64 →
    (left number : ℕ) (m : Machine) → number + left ≡ limits.budget →
    After clock number start m → IsValid m →
    ((earlier : ℕ) → earlier < number → NoStop clock limits start earlier) →
    Ends clock limits start
ends_from clock limits start fits zero number m e reached v least =
    by_trigger clock limits start m number (at_trigger limits.trigger number m) refl reached v least
    (λ trigger.
    let stopped = By_budget trigger (omega arith) in
    ends_here clock limits start m number
    (record { stop = Budget; number = number; machine = m }) reached least stopped v)
ends_from clock limits start fits (suc left) number m e reached v least =
    by_trigger clock limits start m number (at_trigger limits.trigger number m) refl reached v least
    (λ trigger.
    let t = some_turn m clock fits v in
    by_turn clock limits start m number t.0 reached least trigger (omega arith) t.1 t.2
    (λ after. ends_from clock limits start fits left (suc number) after (omega arith)))

rests_or_ends : (clock : ℕ) (limits : Limits) (m : Machine) (resting : Bool) → IsValid m →
    Ends clock limits m →
    (end : End)
    × MatchBool resting (end ≡ record { stop = Rest; number = 0; machine = m })
    (Runs clock limits m end)
    × IsValid end.machine
rests_or_ends clock limits m true v h = (record { stop = Rest; number = 0; machine = m }, refl, v)
rests_or_ends clock limits m false v h = h

pub each_ends : (clock : ℕ) (limits : Limits) (m : Machine) → clock < 2 ^ 64 → IsValid m →
    (end : End) × IsRun clock limits m end × IsValid end.machine
each_ends clock limits m fits v =
    rests_or_ends clock limits m (m.resting && is_empty m.queue) v
    (ends_from clock limits m fits limits.budget 0 m (omega arith) refl v
    (λ earlier lt. absurd (omega arith)))
