-- Where one call of a run stops though the run doesn't.
use Rattle.std.specs.Prelude.{◌≡◌, ℕ, ◌+◌, ◌<◌, Bool, false, Some, IfSome}
use Rattle.machine_model.specs.Machine.{Machine}
use Rattle.machine_model.specs.Run.{at_trigger}
use Rattle.machine_run.specs.Continued.{limits_of, Continues}
use Rattle.machine_run.specs.Frames.{WantsFrames}
use Rattle.machine_run.specs.declared.limits.Limits.{Limits}

-- It pauses where so many more instructions were counted, and none of them rested or halted, where
-- neither trigger nor budget stops it. The next instruction isn't looked at.
pub record Pauses (clock : ℕ) (limits : Limits) (from : ℕ) (m : Machine) (done : ℕ)
    (after : Machine) : Type 0 where
  pub number : ℕ
  pub pause_is : limits.pause ≡ Some number
  pub done_is : done ≡ from + number
  pub continues : Continues clock (limits_of limits) from m done after
  pub awake : after.resting ≡ false
  pub trigger : at_trigger limits.trigger done after ≡ false
  pub budget : done < limits.budget

-- it is awake there, and neither trigger, budget nor pause stops it
pub record IsUnstopped (limits : Limits) (from done : ℕ) (after : Machine) : Type 0 where
  pub awake : after.resting ≡ false
  pub trigger : at_trigger limits.trigger done after ≡ false
  pub budget : done < limits.budget
  pub pause : IfSome limits.pause (λ n. done < from + n)

-- it goes on to where the next instruction alone can stop it, and that wants frames
pub record StopsForFrames (takes : Bool) (spares clock : ℕ) (limits : Limits) (from : ℕ)
    (m : Machine) (done : ℕ) (after : Machine) : Type 0 where
  pub continues : Continues clock (limits_of limits) from m done after
  pub unstopped : IsUnstopped limits from done after
  pub wants : WantsFrames takes spares clock after
