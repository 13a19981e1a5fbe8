-- How a run begins or goes on: a machine that rests wakes or stays at rest.
use Rattle.std.proofs.Common.{◌≡◌, ℕ, Bool, true, false, ◌&&◌, not, if◌then◌else◌, List, refl, sym, ◌∙◌, ap, subst, MatchBool, ◌⊎◌, inl, inr, Some, None}
use Rattle.machine_model.specs.Hypercall.{packet_queued}
use Rattle.machine_model.specs.Machine.{Machine, with_register}
use Rattle.machine_model.specs.Run.{Limits, End, Runs, IsRun, give, is_empty}
use Rattle.machine_model.specs.declared.stop.Stop.{Stop}
use Rattle.machine_model.specs.declared.stop.Stop.TheVariants as stops
use Rattle.machine_run.specs.Continued.{woken, given, stop_of, Continues, Finishes, RunsTo, RunsOn}
use Rattle.machine_run.proofs.Continued.{runs_to-join, finishes-runs}
use Rattle.machine_run.specs.declared.limits.RunEnd.{RunEnd}
use Rattle.machine_run.specs.declared.limits.RunEnd.TheVariants.{Rest, Trigger, Halt, Fault, Budget, Paused, NeedFrames, Memory}

rests_by : (resting empty : Bool) (x y : List ℕ) (f : List ℕ → Bool → Machine) →
    (resting && empty) ≡ true →
    f (if resting && not empty then x else y) (resting && empty) ≡ f y resting
rests_by true true x y f h = refl
rests_by true false x y f h = cc
rests_by false empty x y f h = cc

-- one that is at rest stays as it is
pub woken_rests : (m : Machine) → (m.resting && is_empty m.queue) ≡ true → woken m ≡ m
woken_rests m h =
    rests_by m.resting (is_empty m.queue) (with_register 10 packet_queued m.registers) m.registers
    (λ registers resting.
    let to : Machine = record m { registers = registers; resting = resting } in to) h

awake_by : (resting empty : Bool) (x y : List ℕ) (f : List ℕ → Bool → Machine) →
    resting ≡ false →
    f (if resting && not empty then x else y) (resting && empty) ≡ f y resting
awake_by true empty x y f h = cc
awake_by false empty x y f h = refl

-- and one that doesn't rest
pub woken_awake : (m : Machine) → m.resting ≡ false → woken m ≡ m
woken_awake m h =
    awake_by m.resting (is_empty m.queue) (with_register 10 packet_queued m.registers) m.registers
    (λ registers resting.
    let to : Machine = record m { registers = registers; resting = resting } in to) h

pub rests_on : (clock : ℕ) (limits : Limits) (from : ℕ) (m after : Machine) → after ≡ woken m →
    after.resting ≡ true → RunsOn clock limits from m Rest from after
rests_on clock limits from m after woke rests =
    let test : (m.resting && is_empty m.queue) ≡ true = sym (ap (λ x. x.resting) woke) ∙ rests in
    rw test (refl, refl, woke ∙ woken_rests m test)

on_by : (clock : ℕ) (limits : Limits) (from : ℕ) (m : Machine) (end : RunEnd) (done : ℕ)
    (after : Machine) (test : Bool) → test ≡ false →
    RunsTo clock limits from (woken m) end done after →
    MatchBool test ((end ≡ Rest) × (done ≡ from) × (after ≡ m))
    (RunsTo clock limits from (woken m) end done after)
on_by clock limits from m end done after true e runs = cc
on_by clock limits from m end done after false e runs = runs

of_awake : (clock : ℕ) (limits : Limits) (from : ℕ) (m : Machine) (end : RunEnd) (done : ℕ)
    (after : Machine) (resting empty : Bool) → resting ≡ false →
    MatchBool (resting && empty) ((end ≡ Rest) × (done ≡ from) × (after ≡ m))
    (RunsTo clock limits from (woken m) end done after) →
    RunsTo clock limits from (woken m) end done after
of_awake clock limits from m end done after true empty e on = cc
of_awake clock limits from m end done after false empty e on = on

pub runs_on : (clock : ℕ) (limits : Limits) (from : ℕ) (m begun : Machine) (end : RunEnd)
    (done : ℕ) (after : Machine) → begun ≡ woken m → begun.resting ≡ false →
    RunsTo clock limits from begun end done after → RunsOn clock limits from m end done after
runs_on clock limits from m begun end done after woke awake runs =
    let test : (m.resting && is_empty m.queue) ≡ false = sym (ap (λ x. x.resting) woke) ∙ awake in
    let to : RunsTo clock limits from (woken m) end done after =
    subst (λ x. RunsTo clock limits from x end done after) woke runs in
    on_by clock limits from m end done after (m.resting && is_empty m.queue) test to

-- a part goes on where another ended
pub goes_on : (clock : ℕ) (limits : Limits) (a : ℕ) (m : Machine) (b : ℕ) (mid : Machine)
    (end : RunEnd) (done : ℕ) (after : Machine) → Continues clock limits a m b mid →
    mid.resting ≡ false → RunsOn clock limits b mid end done after →
    RunsTo clock limits a m end done after
goes_on clock limits a m b mid end done after before awake on =
    let runs : RunsTo clock limits b (woken mid) end done after =
    of_awake clock limits b mid end done after mid.resting (is_empty mid.queue) awake on in
    runs_to-join clock limits a m b mid end done after before
    (subst (λ x. RunsTo clock limits b x end done after) (woken_awake mid awake) runs)

-- ---- whole runs

runs_by : (clock : ℕ) (limits : Limits) (m : Machine) (stop other : Stop) (done : ℕ)
    (after : Machine) → Some other ≡ Some stop →
    Finishes clock limits 0 m (record { stop = other; number = done; machine = after }) →
    Runs clock limits m (record { stop = stop; number = done; machine = after })
runs_by clock limits m stop other done after e f =
    let same : other ≡ stop = cc in
    let runs = λ (x : Stop).
    Runs clock limits m (record { stop = x; number = done; machine = after }) in
    subst runs same (finishes-runs clock limits m _ f)

none_or_some : {P : Type 0} (stop : Stop) → None ≡ Some stop → P
none_or_some stop e = cc

pub runs_to-runs : (clock : ℕ) (limits : Limits) (m : Machine) (end : RunEnd) (stop : Stop)
    (done : ℕ) (after : Machine) → stop_of end ≡ Some stop →
    RunsTo clock limits 0 m end done after →
    Runs clock limits m (record { stop = stop; number = done; machine = after })
runs_to-runs clock limits m Rest stop done after e f =
    runs_by clock limits m stop _ done after e f
runs_to-runs clock limits m Trigger stop done after e f =
    runs_by clock limits m stop _ done after e f
runs_to-runs clock limits m (Halt code) stop done after e f =
    runs_by clock limits m stop _ done after e f
runs_to-runs clock limits m (Fault cause pc tval) stop done after e f =
    runs_by clock limits m stop _ done after e f
runs_to-runs clock limits m Budget stop done after e f =
    runs_by clock limits m stop _ done after e f
runs_to-runs clock limits m Paused stop done after e f =
    none_or_some stop e
runs_to-runs clock limits m NeedFrames stop done after e f =
    none_or_some stop e
runs_to-runs clock limits m Memory stop done after e f =
    none_or_some stop e

-- what `give` makes doesn't rest where packets are queued
run_by : (clock : ℕ) (limits : Limits) (m : Machine) (end : End) (resting empty : Bool) →
    resting ≡ false → Runs clock limits m end →
    MatchBool (resting && empty) (end ≡ record { stop = stops.Rest; number = 0; machine = m })
    (Runs clock limits m end)
run_by clock limits m end true empty e runs = cc
run_by clock limits m end false empty e runs = runs

pub cut_run : (clock : ℕ) (limits : Limits) (m : Machine) (packets : List (List ℕ))
    (end : RunEnd) (stop : Stop) (done : ℕ) (after : Machine) →
    (m.resting && is_empty packets) ≡ false →
    stop_of end ≡ Some stop → RunsTo clock limits 0 (give m packets) end done after →
    IsRun clock limits (give m packets) (record { stop = stop; number = done; machine = after })
cut_run clock limits m packets end stop done after test e f =
    run_by clock limits (give m packets)
    (record { stop = stop; number = done; machine = after })
    (m.resting && is_empty packets) (is_empty packets) test
    (runs_to-runs clock limits (give m packets) end stop done after e f)

-- and one that is at rest with none queued has its run behind it
rest_run : (clock : ℕ) (limits : Limits) (m : Machine) (end : RunEnd) (stop : Stop) (done : ℕ)
    (after begun : Machine) (resting empty : Bool) → (resting && empty) ≡ true →
    stop_of end ≡ Some stop → end ≡ Rest → done ≡ 0 → after ≡ begun →
    let to : End = record { stop = stop; number = done; machine = after } in
    MatchBool (resting && empty && empty)
    (to ≡ record { stop = stops.Rest; number = 0; machine = begun }) (Runs clock limits begun to)
rest_run clock limits m end stop done after begun true true h e rests none same =
    let s : stop_of Rest ≡ Some stop = subst (λ x. stop_of x ≡ Some stop) rests e in
    let t : stops.Rest ≡ stop = cc in
    cc
rest_run clock limits m end stop done after begun true false h e rests none same = cc
rest_run clock limits m end stop done after begun false empty h e rests none same = cc

at_rest : (clock : ℕ) (limits : Limits) (m : Machine) (packets : List (List ℕ)) (end : RunEnd)
    (done : ℕ) (after : Machine) (test : Bool) → test ≡ true →
    MatchBool test ((end ≡ Rest) × (done ≡ 0) × (after ≡ given m packets))
    (RunsTo clock limits 0 (give m packets) end done after) →
    (end ≡ Rest) × (done ≡ 0) × (after ≡ given m packets)
at_rest clock limits m packets end done after true e on = on
at_rest clock limits m packets end done after false e on = cc

at_run : (clock : ℕ) (limits : Limits) (m : Machine) (packets : List (List ℕ)) (end : RunEnd)
    (done : ℕ) (after : Machine) (test : Bool) → test ≡ false →
    MatchBool test ((end ≡ Rest) × (done ≡ 0) × (after ≡ given m packets))
    (RunsTo clock limits 0 (give m packets) end done after) →
    RunsTo clock limits 0 (give m packets) end done after
at_run clock limits m packets end done after true e on = cc
at_run clock limits m packets end done after false e on = on

bool_cases : (b : Bool) → (b ≡ true) ⊎ (b ≡ false)
bool_cases true = inl refl
bool_cases false = inr refl

pub whole_run : (clock : ℕ) (limits : Limits) (m : Machine) (packets : List (List ℕ))
    (end : RunEnd) (stop : Stop) (done : ℕ) (after : Machine) → stop_of end ≡ Some stop →
    RunsOn clock limits 0 (given m packets) end done after →
    IsRun clock limits (give m packets) (record { stop = stop; number = done; machine = after })
whole_run clock limits m packets end stop done after e on =
    elim (bool_cases (m.resting && is_empty packets)) [
      | inl test ↦ (
          let at : (end ≡ Rest) × (done ≡ 0) × (after ≡ given m packets) =
          at_rest clock limits m packets end done after (m.resting && is_empty packets) test on in
          rest_run clock limits m end stop done after (give m packets) m.resting (is_empty packets)
          test e at.0 at.1 (at.2 ∙ sym (woken_rests (given m packets) test)))
      | inr test ↦ cut_run clock limits m packets end stop done after test e
          (at_run clock limits m packets end done after (m.resting && is_empty packets) test on)
    ]
