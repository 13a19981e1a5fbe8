-- Runs in parts: each goes on where the one before it was.
use Rattle.std.specs.Prelude.{◌≡◌, ℕ, ◌-◌, ◌<◌, ◌≤◌, ◌&&◌, not, if◌then◌else◌}
use Rattle.std.specs.Prelude.{MatchBool, List, [], Option, Some, None}
use Rattle.machine_model.specs.Hypercall.{packet_queued}
use Rattle.machine_model.specs.Machine.{Machine, with_register}
use Rattle.machine_model.specs.Run as model
use Rattle.machine_model.specs.Run.{End, After, IsStop, at_trigger, is_empty}
use Rattle.machine_model.specs.declared.stop.Stop.{Stop}
use Rattle.machine_model.specs.declared.stop.Stop.TheVariants as stop
use Rattle.machine_run.specs.declared.limits.Limits.{Limits}
use Rattle.machine_run.specs.declared.limits.RunEnd.{RunEnd}
use Rattle.machine_run.specs.declared.limits.RunEnd.TheVariants.{Rest, Trigger, Halt, Fault, Budget}
use Rattle.machine_run.specs.declared.limits.RunEnd.TheVariants.{Paused, NeedFrames, Memory}

-- the limits of the whole run
abbrev pub limits_of : Limits → model.Limits
limits_of limits = record { trigger = limits.trigger; budget = limits.budget }

-- the machine as its run begins: one that rests goes on where a packet is queued, as its wait ends
abbrev pub woken : Machine → Machine
woken m =
    let wakes = m.resting && not (is_empty m.queue) in
    record m {
      registers = if wakes then with_register 10 packet_queued m.registers else m.registers;
      resting = m.resting && is_empty m.queue;
    }

-- the machine with these packets queued, and nothing written, before it wakes
abbrev pub given : Machine → List (List ℕ) → Machine
given m packets = record m { queue = packets; sent = []; console = [] }

-- Where `from` instructions were counted the machine was `m`, and where `number` were it is
-- `after`. At no number before that, from there on, a stop is met.
pub record Continues (clock : ℕ) (limits : model.Limits) (from : ℕ) (m : Machine) (number : ℕ)
    (after : Machine) : Type 0 where
  pub forward : from ≤ number
  pub reached : After clock (number - from) m after
  pub least : (earlier : ℕ) → from ≤ earlier → earlier < number → (mid : Machine) (other : End) →
      After clock (earlier - from) m mid → IsStop clock limits earlier mid other → ⊥

-- and then the first stop is met
pub record Finishes (clock : ℕ) (limits : model.Limits) (from : ℕ) (m : Machine) (end : End)
    : Type 0 where
  pub number : ℕ
  pub at : Machine
  pub continues : Continues clock limits from m number at
  pub stopped : IsStop clock limits number at end

-- The part of a run from `from` counted instructions on ends so, with so many counted and this
-- machine: at the run's first stop, or before it.
abbrev pub RunsTo : (clock : ℕ) → model.Limits → (from : ℕ) → Machine → RunEnd → (done : ℕ) →
    (after : Machine) → Type 0
RunsTo clock limits from m Rest done after =
    Finishes clock limits from m (record { stop = stop.Rest; number = done; machine = after })
RunsTo clock limits from m Trigger done after =
    Finishes clock limits from m (record { stop = stop.Trigger; number = done; machine = after })
RunsTo clock limits from m (Halt code) done after =
    Finishes clock limits from m (record { stop = stop.Halt code; number = done; machine = after })
RunsTo clock limits from m (Fault cause pc tval) done after =
    Finishes clock limits from m
    (record { stop = stop.Exception cause pc tval; number = done; machine = after })
RunsTo clock limits from m Budget done after =
    Finishes clock limits from m (record { stop = stop.Budget; number = done; machine = after })
RunsTo clock limits from m Paused done after = Continues clock limits from m done after
RunsTo clock limits from m NeedFrames done after = Continues clock limits from m done after
RunsTo clock limits from m Memory done after = Continues clock limits from m done after

-- A machine that rests with no packet queued is at rest already. Any other runs on from where it
-- wakes.
abbrev pub RunsOn : (clock : ℕ) → model.Limits → (from : ℕ) → Machine → RunEnd → (done : ℕ) →
    (after : Machine) → Type 0
RunsOn clock limits from m end done after =
    MatchBool (m.resting && is_empty m.queue)
    ((end ≡ Rest) × (done ≡ from) × (after ≡ m))
    (RunsTo clock limits from (woken m) end done after)

-- the stop that the run's end is, if the run doesn't go on
abbrev pub stop_of : RunEnd → Option Stop
stop_of Rest = Some stop.Rest
stop_of Trigger = Some stop.Trigger
stop_of (Halt code) = Some (stop.Halt code)
stop_of (Fault cause pc tval) = Some (stop.Exception cause pc tval)
stop_of Budget = Some stop.Budget
stop_of Paused = None
stop_of NeedFrames = None
stop_of Memory = None
