-- What a run comes to where it ends.
use Rattle.std.proofs.Common.{◌≡◌, ◌≢◌, ◌↔◌, ℕ, ◌+◌, ◌<◌, Bool, true, false, refl, sym, ap, subst}
use Rattle.std.proofs.Common.{add-zero, arith}
use Rattle.machine_model.specs.Machine.{Machine}
use Rattle.machine_model.specs.Run.{Limits, End, IsTurn, Stops, IsStop, By_turn, at_trigger}
use Rattle.machine_model.specs.declared.stop.Stop.{Stop}
use Rattle.machine_model.specs.declared.stop.Stop.TheVariants as stop
use Rattle.machine_model.proofs.Runs.{exceptions_keep}
use Rattle.machine_run.specs.Continued.{limits_of, Continues, RunsTo}
use Rattle.machine_run.specs.Ending.{EndsAt, EndsPart, IsPassed}
use Rattle.machine_run.specs.Frames.{WantsFrames, WantsRightly, IsUndone}
use Rattle.machine_run.specs.Turns.{CountedDoes, UncountedDoes}
use Rattle.machine_run.specs.declared.limits.Part.{Part}
use Rattle.machine_run.specs.declared.limits.RunEnd.{RunEnd}
use Rattle.machine_run.specs.declared.limits.RunEnd.TheVariants.{Rest, Trigger, Halt, Fault, Budget}
use Rattle.machine_run.specs.declared.limits.RunEnd.TheVariants.{Paused, NeedFrames, Memory}
use Rattle.machine_run.specs.declared.turn.Turn.TheVariants.{Uncounted}

stays : (clock : ℕ) (limits : Limits) (from : ℕ) (m : Machine) (number : ℕ) (here : Machine)
    (done : ℕ) (after : Machine) → Continues clock limits from m number here →
    (done ≡ number) × (after ≡ here) → Continues clock limits from m done after
stays clock limits from m number here done after c e =
    let at : Continues clock limits from m done here =
    subst (λ n. Continues clock limits from m n here) (sym e.0) c in
    subst (λ x. Continues clock limits from m done x) (sym e.1) at

-- it ends where it continued to
pub ends-runs_to : (clock : ℕ) (limits : Limits) (from : ℕ) (m : Machine) (number : ℕ)
    (here : Machine) (end : RunEnd) (done : ℕ) (after : Machine) →
    Continues clock limits from m number here → EndsAt clock limits number here end done after →
    RunsTo clock limits from m end done after
ends-runs_to clock limits from m number here Rest done after c e =
    record { number = number; at = here; continues = c; stopped = e }
ends-runs_to clock limits from m number here Trigger done after c e =
    record { number = number; at = here; continues = c; stopped = e }
ends-runs_to clock limits from m number here (Halt code) done after c e =
    record { number = number; at = here; continues = c; stopped = e }
ends-runs_to clock limits from m number here (Fault cause pc tval) done after c e =
    record { number = number; at = here; continues = c; stopped = e }
ends-runs_to clock limits from m number here Budget done after c e =
    record { number = number; at = here; continues = c; stopped = e }
ends-runs_to clock limits from m number here Paused done after c e =
    stays clock limits from m number here done after c e
ends-runs_to clock limits from m number here NeedFrames done after c e =
    stays clock limits from m number here done after c e
ends-runs_to clock limits from m number here Memory done after c e =
    stays clock limits from m number here done after c e

-- ---- at a turn whose instruction is counted

pub counted_at : (clock : ℕ) (limits : Limits) (number : ℕ) (here after : Machine)
    (end : RunEnd) → at_trigger limits.trigger number here ≡ false → number ≢ limits.budget →
    CountedDoes end clock here after → EndsAt clock limits number here end (number + 1) after
counted_at clock limits number here after Rest trigger budget turn = By_turn trigger budget turn
counted_at clock limits number here after Trigger trigger budget turn = absurd turn
counted_at clock limits number here after (Halt code) trigger budget turn =
    By_turn trigger budget turn
counted_at clock limits number here after (Fault cause pc tval) trigger budget turn = absurd turn
counted_at clock limits number here after Budget trigger budget turn = absurd turn
counted_at clock limits number here after Paused trigger budget turn = absurd turn
counted_at clock limits number here after NeedFrames trigger budget turn = absurd turn
counted_at clock limits number here after Memory trigger budget turn = absurd turn

passed : (clock : ℕ) (part : Part) (m : Machine) (number : ℕ) (here : Machine) (end : End) →
    Continues clock (limits_of part.limits) part.from m number here →
    IsStop clock (limits_of part.limits) number here end → IsPassed clock part m (number + 1)
passed clock part m number here end before stopped after c =
    c.least number before.forward (omega arith) here end before.reached stopped

pub counted_part : (clock : ℕ) (part : Part) (m : Machine) (number : ℕ) (here after : Machine)
    (end : RunEnd) → Continues clock (limits_of part.limits) part.from m number here →
    at_trigger part.limits.trigger number here ≡ false → number ≢ part.limits.budget →
    CountedDoes end clock here after → EndsPart end clock part m (number + 1) after
counted_part clock part m number here after Rest before trigger budget turn =
    passed clock part m number here _ before (By_turn trigger budget turn)
counted_part clock part m number here after Trigger before trigger budget turn = absurd turn
counted_part clock part m number here after (Halt code) before trigger budget turn =
    passed clock part m number here _ before (By_turn trigger budget turn)
counted_part clock part m number here after (Fault cause pc tval) before trigger budget turn =
    absurd turn
counted_part clock part m number here after Budget before trigger budget turn = absurd turn
counted_part clock part m number here after Paused before trigger budget turn = absurd turn
counted_part clock part m number here after NeedFrames before trigger budget turn = absurd turn
counted_part clock part m number here after Memory before trigger budget turn = absurd turn

pub counted_done : {P : Type 0} (clock : ℕ) (here after : Machine) (end : RunEnd) →
    CountedDoes end clock here after → IsUndone end → P
counted_done clock here after Rest turn undone = absurd undone
counted_done clock here after Trigger turn undone = absurd undone
counted_done clock here after (Halt code) turn undone = absurd undone
counted_done clock here after (Fault cause pc tval) turn undone = absurd turn
counted_done clock here after Budget turn undone = absurd undone
counted_done clock here after Paused turn undone = absurd undone
counted_done clock here after NeedFrames turn undone = absurd turn
counted_done clock here after Memory turn undone = absurd turn

-- ---- at a turn whose instruction isn't

fault_at : (clock : ℕ) (limits : Limits) (number : ℕ) (here after : Machine) (stop : Stop) →
    at_trigger limits.trigger number here ≡ false → number ≢ limits.budget →
    IsTurn here clock (Stops stop 0 after) →
    IsStop clock limits number here (record { stop = stop; number = number; machine = after })
fault_at clock limits number here after stop trigger budget turn =
    let end : End = record { stop = stop; number = number + 0; machine = after } in
    let stopped : IsStop clock limits number here end = By_turn trigger budget turn in
    rw add-zero at stopped

pub uncounted_at : (clock : ℕ) (limits : Limits) (number : ℕ) (here after : Machine)
    (end : RunEnd) → at_trigger limits.trigger number here ≡ false → number ≢ limits.budget →
    UncountedDoes end clock here after → EndsAt clock limits number here end number after
uncounted_at clock limits number here after Rest trigger budget turn = absurd turn
uncounted_at clock limits number here after Trigger trigger budget turn = absurd turn
uncounted_at clock limits number here after (Halt code) trigger budget turn = absurd turn
uncounted_at clock limits number here after (Fault cause pc tval) trigger budget turn =
    fault_at clock limits number here after (stop.Exception cause pc tval) trigger budget turn
uncounted_at clock limits number here after Budget trigger budget turn = absurd turn
uncounted_at clock limits number here after Paused trigger budget turn = absurd turn
uncounted_at clock limits number here after NeedFrames trigger budget turn = (refl, turn)
uncounted_at clock limits number here after Memory trigger budget turn = (refl, turn)

pub uncounted_same : (clock : ℕ) (here after : Machine) (end : RunEnd) →
    UncountedDoes end clock here after → after ≡ here
uncounted_same clock here after Rest turn = absurd turn
uncounted_same clock here after Trigger turn = absurd turn
uncounted_same clock here after (Halt code) turn = absurd turn
uncounted_same clock here after (Fault cause pc tval) turn =
    (exceptions_keep here clock cause pc tval 0 after turn).0
uncounted_same clock here after Budget turn = absurd turn
uncounted_same clock here after Paused turn = absurd turn
uncounted_same clock here after NeedFrames turn = turn
uncounted_same clock here after Memory turn = turn

pub uncounted_part : (clock : ℕ) (part : Part) (m : Machine) (number : ℕ) (here after : Machine)
    (end : RunEnd) → number < part.until → at_trigger part.limits.trigger number here ≡ false →
    UncountedDoes end clock here after → EndsPart end clock part m number after
uncounted_part clock part m number here after Rest below trigger turn = absurd turn
uncounted_part clock part m number here after Trigger below trigger turn = absurd turn
uncounted_part clock part m number here after (Halt code) below trigger turn = absurd turn
uncounted_part clock part m number here after (Fault cause pc tval) below trigger turn =
    let same = uncounted_same clock here after (Fault cause pc tval) turn in
    (below, subst (λ x. at_trigger part.limits.trigger number x ≡ false) (sym same) trigger)
uncounted_part clock part m number here after Budget below trigger turn = absurd turn
uncounted_part clock part m number here after Paused below trigger turn = absurd turn
uncounted_part clock part m number here after NeedFrames below trigger turn =
    (below, subst (λ x. at_trigger part.limits.trigger number x ≡ false) (sym turn) trigger)
uncounted_part clock part m number here after Memory below trigger turn =
    (below, subst (λ x. at_trigger part.limits.trigger number x ≡ false) (sym turn) trigger)

ends_so : (a b : RunEnd) → Uncounted a ≡ Uncounted b → a ≡ b
ends_so a b e = cc

pub uncounted_wants : (end : RunEnd) (takes lacks : Bool) (old new clock : ℕ)
    (here after : Machine) → UncountedDoes end clock here after → new ≡ old →
    (Uncounted end ≡ Uncounted NeedFrames) ↔ WantsFrames takes old clock here →
    (Uncounted end ≡ Uncounted Memory → lacks ≡ true) →
    WantsRightly end takes lacks new clock after
uncounted_wants end takes lacks old new clock here after turn spares wants memory =
    let same = uncounted_same clock here after end turn in
    let there = λ (w : WantsFrames takes old clock here).
    subst (λ n. WantsFrames takes n clock after) (sym spares)
    (subst (WantsFrames takes old clock) (sym same) w) in
    let back = λ (w : WantsFrames takes new clock after).
    subst (λ n. WantsFrames takes n clock here) spares
    (subst (WantsFrames takes new clock) same w) in
    record {
      frames = (
        λ e. there (wants.0 (ap Uncounted e)),
        λ w. ends_so end NeedFrames (wants.1 (back w)),
      );
      memory = λ e. memory (ap Uncounted e);
    }
