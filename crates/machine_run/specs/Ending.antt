-- Where a run ends: at which number of counted instructions, and at which machine.
use Rattle.std.specs.Prelude.{◌≡◌, ℕ, ◌+◌, ◌-◌, ◌<◌, ◌≤◌, true, false, Some, IfSome}
use Rattle.machine_model.specs.Machine.{Machine}
use Rattle.machine_model.specs.Run as model
use Rattle.machine_model.specs.Run.{IsStop, at_trigger}
use Rattle.machine_model.specs.declared.stop.Stop.TheVariants as stop
use Rattle.machine_run.specs.Continued.{limits_of, Continues}
use Rattle.machine_run.specs.declared.limits.Part.{Part}
use Rattle.machine_run.specs.declared.limits.RunEnd.{RunEnd}
use Rattle.machine_run.specs.declared.limits.RunEnd.TheVariants.{Rest, Trigger, Halt, Fault, Budget}
use Rattle.machine_run.specs.declared.limits.RunEnd.TheVariants.{Paused, NeedFrames, Memory}

-- Where so many instructions were counted, and no stop was met before, the run ends so, with `done`
-- counted and the machine `after`: at a stop, or with nothing done.
abbrev pub EndsAt : (clock : ℕ) → model.Limits → (number : ℕ) → (here : Machine) → RunEnd →
    (done : ℕ) → (after : Machine) → Type 0
EndsAt clock limits number here Rest done after =
    IsStop clock limits number here (record { stop = stop.Rest; number = done; machine = after })
EndsAt clock limits number here Trigger done after =
    IsStop clock limits number here (record { stop = stop.Trigger; number = done; machine = after })
EndsAt clock limits number here (Halt code) done after = IsStop clock limits number here
    (record { stop = stop.Halt code; number = done; machine = after })
EndsAt clock limits number here (Fault cause pc tval) done after = IsStop clock limits number here
    (record { stop = stop.Exception cause pc tval; number = done; machine = after })
EndsAt clock limits number here Budget done after =
    IsStop clock limits number here (record { stop = stop.Budget; number = done; machine = after })
EndsAt clock limits number here Paused done after = (done ≡ number) × (after ≡ here)
EndsAt clock limits number here NeedFrames done after = (done ≡ number) × (after ≡ here)
EndsAt clock limits number here Memory done after = (done ≡ number) × (after ≡ here)

-- ---- one part

-- It ends after at most so many counted instructions as the budget and the pause of its call allow,
-- and at so many only there.
pub record IsPart (part : Part) : Type 0 where
  pub forward : part.from ≤ part.until
  pub within : part.until ≤ part.limits.budget
  pub pause : IfSome part.limits.pause (λ n. part.until ≤ part.from + n)
  pub early : part.until < part.limits.budget → part.limits.pause ≡ Some (part.until - part.from)

-- a stop was met before so many instructions were counted
abbrev pub IsPassed : (clock : ℕ) → Part → Machine → (done : ℕ) → Type 0
IsPassed clock part m done =
    (after : Machine) → Continues clock (limits_of part.limits) part.from m done after → ⊥

-- neither the trigger nor the end of the part is there
abbrev pub IsBelow : Part → (done : ℕ) → Machine → Type 0
IsBelow part done after =
    (done < part.until) × (at_trigger part.limits.trigger done after ≡ false)

-- what is so where a part ends so
abbrev pub EndsPart : RunEnd → (clock : ℕ) → Part → Machine → (done : ℕ) → (after : Machine) →
    Type 0
EndsPart Rest clock part m done after = IsPassed clock part m done
EndsPart Trigger clock part m done after = at_trigger part.limits.trigger done after ≡ true
EndsPart (Halt code) clock part m done after = IsPassed clock part m done
EndsPart (Fault cause pc tval) clock part m done after = IsBelow part done after
EndsPart Budget clock part m done after = done ≡ part.limits.budget
EndsPart Paused clock part m done after =
    (done ≡ part.until) × (done < part.limits.budget)
    × (at_trigger part.limits.trigger done after ≡ false)
EndsPart NeedFrames clock part m done after = IsBelow part done after
EndsPart Memory clock part m done after = IsBelow part done after
