-- Where frames are wanted.
use Rattle.std.specs.Prelude.{◌≡◌, ℕ, ◌↔◌, Bool, true}
use Rattle.machine_model.specs.Machine.{Machine}
use Rattle.machine_model.specs.Run.{Goes, IsTurn}
use Rattle.space_api.specs.Frames.{LacksFrames}
use Rattle.machine_run.specs.declared.limits.RunEnd.{RunEnd}
use Rattle.machine_run.specs.declared.limits.RunEnd.TheVariants.{Rest, Trigger, Halt, Fault, Budget}
use Rattle.machine_run.specs.declared.limits.RunEnd.TheVariants.{Paused, NeedFrames, Memory}

-- The next turn would go on to a machine with more written pages, and that takes more frames than
-- there are spares.
pub record WantsFrames (takes : Bool) (spares clock : ℕ) (m : Machine) : Type 0 where
  pub after : Machine
  pub goes : IsTurn m clock (Goes after)
  pub lacks : LacksFrames takes spares m.written after.written

-- the run ends so at an instruction that isn't done
abbrev pub IsUndone : RunEnd → Type 0
IsUndone Rest = ⊥
IsUndone Trigger = ⊥
IsUndone (Halt code) = ⊥
IsUndone (Fault cause pc tval) = Unit {0}
IsUndone Budget = ⊥
IsUndone Paused = ⊥
IsUndone NeedFrames = Unit {0}
IsUndone Memory = Unit {0}

-- it ends for want of frames exactly where they are wanted, and of memory only where the space may
-- lack it
pub record WantsRightly (end : RunEnd) (takes lacks : Bool) (spares clock : ℕ) (m : Machine)
    : Type 0 where
  pub frames : (end ≡ NeedFrames) ↔ WantsFrames takes spares clock m
  pub memory : end ≡ Memory → lacks ≡ true
