-- What a part of a run comes to, by where the run was before it.
use Rattle.std.proofs.Common.{◌≡◌, ◌≢◌, ◌↔◌, ℕ, ◌+◌, ◌-◌, ◌<◌, ◌&&◌, Bool, true, false}
use Rattle.std.proofs.Common.{MatchBool, List, Some, IfSome, refl, ap, sym, ◌∙◌, subst, arith}
use Rattle.machine_model.specs.Machine.{Machine}
use Rattle.machine_model.specs.Run as model
use Rattle.machine_model.specs.Run.{IsRun, give, is_empty}
use Rattle.machine_model.specs.declared.stop.Stop.{Stop}
use Rattle.machine_model.specs.declared.stop.Stop.TheVariants as stop
use Rattle.machine_run.proofs.Waking.{cut_run, goes_on, whole_run}
use Rattle.machine_run.specs.Continued.{Continues, RunsOn, RunsTo, given, limits_of, stop_of}
use Rattle.machine_run.specs.Frames.{IsUndone}
use Rattle.machine_run.specs.Stopping.{Pauses, StopsForFrames}
use Rattle.machine_run.specs.declared.limits.Limits.{Limits}
use Rattle.machine_run.specs.declared.limits.RunEnd.{RunEnd}
use Rattle.machine_run.specs.declared.limits.RunEnd.TheVariants as end
use Rattle.machine_run.specs.declared.limits.RunEnd.TheVariants.{Rest, Trigger, Halt, Fault, Budget}
use Rattle.context_runs.specs.SoFar.{EndsInTime, EndsPart, IsBelow, IsSoFar, TellsPart, Begun}
use Rattle.context_runs.specs.SoFar.{Went}
use Rattle.context_runs.specs.declared.part.PartEnd.{PartEnd}

module _ (clock : ℕ) (limits : model.Limits) (m : Machine) (packets : List (List ℕ)) where
  -- nothing was done yet: the machine was given the packets
  from_start : (from : ℕ) (old : Machine) (e : RunEnd) (done : ℕ) (new : Machine) → from ≡ 0
      → old ≡ given m packets → RunsOn clock limits from old e done new
      → RunsOn clock limits 0 (given m packets) e done new
  from_start from old e done new none at on =
      subst (λ x. RunsOn clock limits 0 x e done new) at
      (subst (λ n. RunsOn clock limits n old e done new) none on)

  -- a part that stops the run
  stops : (from : ℕ) (old : Machine) (e : RunEnd) (why : Stop) (done : ℕ) (new : Machine)
      → stop_of e ≡ Some why → IsSoFar clock limits m packets from old
      → RunsOn clock limits from old e done new
      → IsRun clock limits (give m packets) (record { stop = why; number = done; machine = new })
  stops from old e why done new is (Begun none at) on =
      whole_run clock limits m packets e why done new is
      (from_start from old e done new none at on)
  stops from old e why done new is (Went test still before) on =
      cut_run clock limits m packets e why done new test is
      (goes_on clock limits 0 (give m packets) from old e done new before still on)

  -- what isn't at rest goes on
  on_by : (X Y Q : Type 0) (e : RunEnd) (test : Bool) → (e ≡ Rest → ⊥)
      → MatchBool test ((e ≡ Rest) × X × Y) Q → (test ≡ false) × Q
  on_by X Y Q e true elsewhere on = absurd (elsewhere on.0)
  on_by X Y Q e false elsewhere on = (refl, on)

  -- a part that doesn't stop it
  goes_so_far : (from : ℕ) (old : Machine) (e : RunEnd) (done : ℕ) (new : Machine)
      → (e ≡ Rest → ⊥)
      → ((a : ℕ) (x : Machine) → RunsTo clock limits a x e done new
      → Continues clock limits a x done new)
      → new.resting ≡ false → IsSoFar clock limits m packets from old
      → RunsOn clock limits from old e done new → IsSoFar clock limits m packets done new
  goes_so_far from old e done new other continues awake (Begun none at) on =
      let went = on_by _ _ _ e (m.resting && is_empty packets) other
      (from_start from old e done new none at on) in
      Went went.0 awake (continues 0 (give m packets) went.1)
  goes_so_far from old e done new other continues awake (Went test still before) on =
      Went test awake (continues 0 (give m packets)
      (goes_on clock limits 0 (give m packets) from old e done new before still on))

  -- a part ends as the call of the run does
  pub ends_part : (from : ℕ) (old : Machine) (e : RunEnd) (p : PartEnd) (done : ℕ)
      (new : Machine) → TellsPart e p → (e ≢ Rest → new.resting ≡ false)
      → RunsOn clock limits from old e done new → IsSoFar clock limits m packets from old
      → EndsPart clock limits m packets p done new
  ends_part from old Rest p done new tells awake on so_far =
      subst (λ x. EndsPart clock limits m packets x done new) (sym tells)
      (stops from old Rest stop.Rest done new refl so_far on)
  ends_part from old Trigger p done new tells awake on so_far =
      subst (λ x. EndsPart clock limits m packets x done new) (sym tells)
      (stops from old Trigger stop.Trigger done new refl so_far on)
  ends_part from old (Halt code) p done new tells awake on so_far =
      subst (λ x. EndsPart clock limits m packets x done new) (sym tells)
      (stops from old (Halt code) (stop.Halt code) done new refl so_far on)
  ends_part from old (Fault cause pc tval) p done new tells awake on so_far =
      subst (λ x. EndsPart clock limits m packets x done new) (sym tells)
      (stops from old (Fault cause pc tval) (stop.Exception cause pc tval) done new refl so_far on)
  ends_part from old Budget p done new tells awake on so_far =
      subst (λ x. EndsPart clock limits m packets x done new) (sym tells)
      (stops from old Budget stop.Budget done new refl so_far on)
  ends_part from old end.Paused p done new tells awake on so_far =
      let other : end.Paused ≢ Rest = λ is. cc in
      subst (λ x. EndsPart clock limits m packets x done new) (sym tells)
      (goes_so_far from old end.Paused done new other (λ a x c. c) (awake other) so_far on)
  ends_part from old end.NeedFrames p done new tells awake on so_far = absurd tells
  ends_part from old end.Memory p done new tells awake on so_far =
      let other : end.Memory ≢ Rest = λ is. cc in
      subst (λ x. EndsPart clock limits m packets x done new) (sym tells)
      (goes_so_far from old end.Memory done new other (λ a x c. c) (awake other) so_far on)

-- what a call of the run says of where it ends
pub record Tells (lacks : Bool) (clock : ℕ) (limits : Limits) (from : ℕ) (old : Machine)
    (e : RunEnd) (done : ℕ) (new : Machine) : Type 0 where
  pub paused : (e ≡ end.Paused) ↔ Pauses clock limits from old done new
  pub below : IsUndone e → (done < limits.budget) × IfSome limits.pause (λ n. done < from + n)
  pub memory : e ≡ end.Memory → lacks ≡ true

-- it pauses after so many
paused_after : (clock : ℕ) (limits : Limits) (from : ℕ) (old : Machine) (done : ℕ) (new : Machine)
    → Pauses clock limits from old done new
    → (limits.pause ≡ Some (done - from)) × IsBelow (limits_of limits) done new
paused_after clock limits from old done new at =
    let done_is = at.done_is in
    let number_is : at.number ≡ done - from = omega (arith, done_is) in
    (at.pause_is ∙ ap Some number_is, record { trigger = at.trigger; budget = at.budget })

-- a part ends in time as the call of the run does
pub ends_in_time : (lacks : Bool) (clock : ℕ) (limits : Limits) (from : ℕ) (old : Machine)
    (e : RunEnd) (p : PartEnd) (done : ℕ) (new : Machine) → TellsPart e p
    → Tells lacks clock limits from old e done new
    → EndsInTime lacks (limits_of limits) limits.pause p from done new
ends_in_time lacks clock limits from old Rest p done new tells said =
    subst (λ x. EndsInTime lacks (limits_of limits) limits.pause x from done new) (sym tells) tt
ends_in_time lacks clock limits from old Trigger p done new tells said =
    subst (λ x. EndsInTime lacks (limits_of limits) limits.pause x from done new) (sym tells) tt
ends_in_time lacks clock limits from old (Halt code) p done new tells said =
    subst (λ x. EndsInTime lacks (limits_of limits) limits.pause x from done new) (sym tells) tt
ends_in_time lacks clock limits from old (Fault cause pc tval) p done new tells said =
    subst (λ x. EndsInTime lacks (limits_of limits) limits.pause x from done new) (sym tells) tt
ends_in_time lacks clock limits from old Budget p done new tells said =
    subst (λ x. EndsInTime lacks (limits_of limits) limits.pause x from done new) (sym tells) tt
ends_in_time lacks clock limits from old end.Paused p done new tells said =
    subst (λ x. EndsInTime lacks (limits_of limits) limits.pause x from done new) (sym tells)
    (paused_after clock limits from old done new (said.paused.0 refl))
ends_in_time lacks clock limits from old end.NeedFrames p done new tells said = absurd tells
ends_in_time lacks clock limits from old end.Memory p done new tells said =
    let below = said.below tt in
    subst (λ x. EndsInTime lacks (limits_of limits) limits.pause x from done new) (sym tells)
    (said.memory refl, below.0, below.1)

-- where no frames are taken, none are wanted
pub wants_none : (takes : Bool) (spares clock : ℕ) (limits : Limits) (from : ℕ) (old : Machine)
    (e : RunEnd) (done : ℕ) (new : Machine) → takes ≡ false
    → ((e ≡ end.NeedFrames) ↔ StopsForFrames takes spares clock limits from old done new)
    → e ≢ end.NeedFrames
wants_none takes spares clock limits from old e done new plain frames is =
    let taken = (frames.0 is).wants.lacks.takes_frames in
    let no : true ≡ false = sym taken ∙ plain in cc
