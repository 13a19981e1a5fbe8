-- Which turn of the machine a turn here is.
use Rattle.std.specs.Prelude.{◌≡◌, ℕ}
use Rattle.machine_model.specs.Machine.{Machine}
use Rattle.machine_model.specs.Run as model
use Rattle.machine_model.specs.Run.{IsTurn}
use Rattle.machine_model.specs.declared.stop.Stop.TheVariants as stop
use Rattle.machine_run.specs.declared.limits.RunEnd.{RunEnd}
use Rattle.machine_run.specs.declared.limits.RunEnd.TheVariants.{Rest, Trigger, Halt, Fault, Budget}
use Rattle.machine_run.specs.declared.limits.RunEnd.TheVariants.{Paused, NeedFrames, Memory}
use Rattle.machine_run.specs.declared.turn.Turn.{Turn}
use Rattle.machine_run.specs.declared.turn.Turn.TheVariants.{Goes, Counted, Uncounted}

-- an instruction at which a run ends so is counted
abbrev pub CountedDoes : RunEnd → (clock : ℕ) → (old new : Machine) → Type 0
CountedDoes Rest clock old new = IsTurn old clock (model.Stops stop.Rest 1 new)
CountedDoes Trigger clock old new = ⊥
CountedDoes (Halt code) clock old new = IsTurn old clock (model.Stops (stop.Halt code) 1 new)
CountedDoes (Fault cause pc tval) clock old new = ⊥
CountedDoes Budget clock old new = ⊥
CountedDoes Paused clock old new = ⊥
CountedDoes NeedFrames clock old new = ⊥
CountedDoes Memory clock old new = ⊥

-- or it isn't; where frames or memory are wanted, the machine is as before
abbrev pub UncountedDoes : RunEnd → (clock : ℕ) → (old new : Machine) → Type 0
UncountedDoes Rest clock old new = ⊥
UncountedDoes Trigger clock old new = ⊥
UncountedDoes (Halt code) clock old new = ⊥
UncountedDoes (Fault cause pc tval) clock old new =
    IsTurn old clock (model.Stops (stop.Exception cause pc tval) 0 new)
UncountedDoes Budget clock old new = ⊥
UncountedDoes Paused clock old new = ⊥
UncountedDoes NeedFrames clock old new = new ≡ old
UncountedDoes Memory clock old new = new ≡ old

-- the turn leads from the one machine to the other, where the clock shows so many nanoseconds
abbrev pub TurnDoes : Turn → (clock : ℕ) → (old new : Machine) → Type 0
TurnDoes Goes clock old new = IsTurn old clock (model.Goes new)
TurnDoes (Counted end) clock old new = CountedDoes end clock old new
TurnDoes (Uncounted end) clock old new = UncountedDoes end clock old new
