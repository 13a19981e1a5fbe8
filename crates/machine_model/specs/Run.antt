-- A run: the machine's instructions one after another, up to the first stop.
use Rattle.std.specs.Prelude.{◌≡◌, ◌≢◌, ℕ, zero, suc, ◌+◌, ◌<◌, Bool, true, false, ◌&&◌, not}
use Rattle.std.specs.Prelude.{if◌then◌else◌, ◌==◌, nat_le, List, [], ◌∷◌, Option, Some, None}
use Rattle.std.specs.Prelude.{MatchBool}
use Rattle.machine_model.specs.declared.stop.Stop.{Stop}
use Rattle.machine_model.specs.declared.stop.Stop.TheVariants.{Trigger, Budget, Exception, Rest}
use Rattle.machine_model.specs.declared.stop.Stop.TheVariants.{Halt}
use Rattle.machine_model.specs.Hypercall.{Outcome, outcome, packet_queued}
use Rattle.machine_model.specs.Hypercall as hyper
use Rattle.machine_model.specs.Instruction.{Next, IsNext, environment_call}
use Rattle.machine_model.specs.Instruction as instruction
use Rattle.machine_model.specs.Machine.{Machine, with_register}

-- ---- what a run is given

abbrev pub is_empty : List (List ℕ) → Bool
is_empty [] = true
is_empty (p ∷ ps) = false

-- The machine with these packets queued, and nothing written to net and console. One that rests
-- goes on where a packet is there, as its wait ends.
abbrev pub give : Machine → List (List ℕ) → Machine
give m packets =
    let wakes = m.resting && not (is_empty packets) in
    record m {
      registers = if wakes then with_register 10 packet_queued m.registers else m.registers;
      resting = m.resting && is_empty packets;
      queue = packets;
      sent = [];
      console = [];
    }

-- where a run stops besides: at an address, once an instruction was counted; after so many
pub record Limits : Type 0 where
  pub trigger : Option ℕ
  pub budget : ℕ

-- why it stopped, how many instructions were counted, and the machine then
pub record End : Type 0 where
  pub stop : Stop
  pub number : ℕ
  pub machine : Machine

-- ---- one turn

-- An instruction goes on, or the run stops at it. Then it is counted or it isn't.
pub data Turn : Type 0 where
  Goes : Machine → Turn
  Stops : Stop → (counted : ℕ) → Machine → Turn

abbrev pub turn_by : Machine → Outcome → Turn
turn_by m (hyper.Done after) = Goes after
turn_by m (hyper.Rests after) = Stops Rest 1 after
turn_by m (hyper.Halts code after) = Stops (Halt code) 1 after
turn_by m (hyper.Unknown number) = Stops (Exception environment_call m.pc number) 0 m

abbrev pub turn_of : Machine → ℕ → Next → Turn
turn_of m clock (instruction.Retires after) = Goes after
turn_of m clock (instruction.Raises cause tval) = Stops (Exception cause m.pc tval) 0 m
turn_of m clock instruction.Calls = turn_by m (outcome m clock)

pub record IsTurn (m : Machine) (clock : ℕ) (turn : Turn) : Type 0 where
  pub next : Next
  pub is_next : IsNext m next
  pub turn_is : turn ≡ turn_of m clock next

-- ---- whole runs

-- n instructions lead from the one machine to the other, and each of them goes on
abbrev pub After : ℕ → ℕ → Machine → Machine → Type 0
After clock zero m after = m ≡ after
After clock (suc n) m after = (mid : Machine) × After clock n m mid × IsTurn mid clock (Goes after)

-- the run stops at the trigger, where so many instructions were counted
abbrev pub at_trigger : Option ℕ → ℕ → Machine → Bool
at_trigger None number m = false
at_trigger (Some a) number m = nat_le 1 number && m.pc == a

-- A stop is met where so many instructions were counted. They are looked at in this order: the
-- trigger, the budget, and what the next instruction does.
pub data IsStop (clock : ℕ) (limits : Limits) (number : ℕ) (m : Machine) : End → Type 0 where
  By_trigger : at_trigger limits.trigger number m ≡ true →
      IsStop clock limits number m (record { stop = Trigger; number = number; machine = m })
  By_budget : at_trigger limits.trigger number m ≡ false → number ≡ limits.budget →
      IsStop clock limits number m (record { stop = Budget; number = number; machine = m })
  By_turn : {stop : Stop} {counted : ℕ} {after : Machine} →
      at_trigger limits.trigger number m ≡ false → number ≢ limits.budget →
      IsTurn m clock (Stops stop counted after) →
      IsStop clock limits number m
      (record { stop = stop; number = number + counted; machine = after })

-- The least number of counted instructions at which a stop is met. A machine that rests with no
-- packet queued is at rest already.
pub record Runs (clock : ℕ) (limits : Limits) (m : Machine) (end : End) : Type 0 where
  pub number : ℕ
  pub at : Machine
  pub reached : After clock number m at
  pub stopped : IsStop clock limits number at end
  pub least : (earlier : ℕ) → earlier < number → (mid : Machine) (other : End) →
      After clock earlier m mid → IsStop clock limits earlier mid other → ⊥

abbrev pub IsRun : ℕ → Limits → Machine → End → Type 0
IsRun clock limits m end =
    MatchBool (m.resting && is_empty m.queue)
    (end ≡ record { stop = Rest; number = 0; machine = m }) (Runs clock limits m end)

-- What a run shows outside: why it stopped, how many instructions were counted, and the packets
-- and the console bytes that it wrote.
pub record Replies (clock : ℕ) (limits : Limits) (m : Machine) (stop : Stop) (number : ℕ)
    (packets : List (List ℕ)) (console : List ℕ) : Type 0 where
  pub machine : Machine
  pub run : IsRun clock limits m (record { stop = stop; number = number; machine = machine })
  pub packets_are : machine.sent ≡ packets
  pub console_is : machine.console ≡ console
