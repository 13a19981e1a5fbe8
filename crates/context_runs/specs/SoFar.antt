-- A run of a context in parts: where it is after each of them.
use Rattle.std.specs.Prelude.{◌≡◌, ℕ, ◌+◌, ◌-◌, ◌<◌, ◌&&◌, Bool, true, false}
use Rattle.std.specs.Prelude.{List, Option, Some, IfSome}
use Rattle.machine_model.specs.Machine.{Machine}
use Rattle.machine_model.specs.Run.{Limits, IsRun, at_trigger, give, is_empty}
use Rattle.machine_model.specs.declared.stop.Stop.TheVariants as stop
use Rattle.machine_run.specs.Continued.{Continues, given}
use Rattle.machine_run.specs.declared.limits.RunEnd.{RunEnd}
use Rattle.machine_run.specs.declared.limits.RunEnd.TheVariants.{Rest, Trigger, Halt, Fault, Budget}
use Rattle.machine_run.specs.declared.limits.RunEnd.TheVariants as end
use Rattle.context_runs.specs.declared.part.PartEnd.{PartEnd}
use Rattle.context_runs.specs.declared.part.PartEnd.TheVariants.{Stopped, Paused, Memory}

-- The run of the machine that was given these packets is so far: nothing was done yet, or so many
-- instructions were counted and no stop was met.
pub data IsSoFar (clock : ℕ) (limits : Limits) (m : Machine) (packets : List (List ℕ)) (done : ℕ)
    (now : Machine) : Type 0 where
  Begun : done ≡ 0 → now ≡ given m packets → IsSoFar clock limits m packets done now
  Went : (m.resting && is_empty packets) ≡ false → now.resting ≡ false →
      Continues clock limits 0 (give m packets) done now → IsSoFar clock limits m packets done now

-- which end of a part the end of one call of a run is; where no frames are taken none are wanted
abbrev pub TellsPart : RunEnd → PartEnd → Type 0
TellsPart Rest part = part ≡ Stopped stop.Rest
TellsPart Trigger part = part ≡ Stopped stop.Trigger
TellsPart (Halt code) part = part ≡ Stopped (stop.Halt code)
TellsPart (Fault cause pc tval) part = part ≡ Stopped (stop.Exception cause pc tval)
TellsPart Budget part = part ≡ Stopped stop.Budget
TellsPart end.Paused part = part ≡ Paused
TellsPart end.NeedFrames part = ⊥
TellsPart end.Memory part = part ≡ Memory

-- A part of the run ends so: at the run's first stop, or before it.
abbrev pub EndsPart : (clock : ℕ) → Limits → Machine → (packets : List (List ℕ)) → PartEnd →
    (done : ℕ) → (now : Machine) → Type 0
EndsPart clock limits m packets (Stopped why) done now =
    IsRun clock limits (give m packets) (record { stop = why; number = done; machine = now })
EndsPart clock limits m packets Paused done now = IsSoFar clock limits m packets done now
EndsPart clock limits m packets Memory done now = IsSoFar clock limits m packets done now

-- ---- how long a part is

-- neither trigger nor budget stops the run there
pub record IsBelow (limits : Limits) (done : ℕ) (now : Machine) : Type 0 where
  pub trigger : at_trigger limits.trigger done now ≡ false
  pub budget : done < limits.budget

-- A part pauses after as many instructions as it may count, where neither trigger nor budget stops
-- the run. It ends for want of memory only before that, and only where the space may lack it.
abbrev pub EndsInTime : (lacks : Bool) → Limits → (pause : Option ℕ) → PartEnd →
    (from done : ℕ) → (now : Machine) → Type 0
EndsInTime lacks limits pause (Stopped why) from done now = Unit {0}
EndsInTime lacks limits pause Paused from done now =
    (pause ≡ Some (done - from)) × IsBelow limits done now
EndsInTime lacks limits pause Memory from done now =
    (lacks ≡ true) × (done < limits.budget) × IfSome pause (λ n. done < from + n)
