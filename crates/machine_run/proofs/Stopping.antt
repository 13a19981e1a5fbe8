-- Where one call of a run stops though the run doesn't.
use Rattle.std.proofs.Common.{◌≡◌, ◌≢◌, ◌↔◌, ℕ, ◌+◌, ◌-◌, ◌<◌, ◌≤◌, Bool, true, false}
use Rattle.std.proofs.Common.{Option, None, Some, IfSome, refl, sym, subst, ◌∙◌, arith}
use Rattle.std.proofs.lemmas.Bool.{true≢false}
use Rattle.machine_model.specs.Machine.{Machine}
use Rattle.machine_run.specs.Continued.{limits_of, RunsTo}
use Rattle.machine_run.specs.Ending.{EndsPart, IsPart}
use Rattle.machine_run.specs.Frames.{WantsRightly, IsUndone}
use Rattle.machine_run.specs.Stopping.{Pauses, IsUnstopped, StopsForFrames}
use Rattle.machine_run.specs.declared.limits.Limits.{Limits}
use Rattle.machine_run.specs.declared.limits.Part.{Part}
use Rattle.machine_run.specs.declared.limits.RunEnd.{RunEnd}
use Rattle.machine_run.specs.declared.limits.RunEnd.TheVariants.{Rest, Trigger, Halt, Fault, Budget}
use Rattle.machine_run.specs.declared.limits.RunEnd.TheVariants.{Paused, NeedFrames, Memory}

-- what is said of a part is said of its call
pub moved : (T : Limits → ℕ → Machine → Type 0) (l l' : Limits) (f f' : ℕ) (m m' : Machine) →
    l ≡ l' → f ≡ f' → m ≡ m' → T l f m → T l' f' m'
moved T l l' f f' m m' p q r t =
    subst (λ x. T l' f' x) r (subst (λ x. T l' x m) q (subst (λ x. T x f m) p t))

-- a part ends at or below its pause
below_by : (pause : Option ℕ) (from until done : ℕ) → IfSome pause (λ n. until ≤ from + n) →
    done < until → IfSome pause (λ n. done < from + n)
below_by None from until done h lt = tt
below_by (Some n) from until done h lt = omega arith

at_most : (pause : Option ℕ) (from until n : ℕ) → pause ≡ Some n →
    IfSome pause (λ n. until ≤ from + n) → until ≤ from + n
at_most None from until n e h = cc
at_most (Some k) from until n e h = let same : k ≡ n = cc in rw same at h

not_below : (pause : Option ℕ) (from until done n : ℕ) → pause ≡ Some n →
    IfSome pause (λ n. done < from + n) → done < from + n
not_below None from until done n e h = cc
not_below (Some k) from until done n e h = let same : k ≡ n = cc in rw same at h

pub is_below : (clock : ℕ) (part : Part) (m : Machine) (end : RunEnd) (done : ℕ)
    (after : Machine) → IsPart part → EndsPart end clock part m done after → IsUndone end →
    (done < part.limits.budget) × IfSome part.limits.pause (λ n. done < part.from + n)
is_below clock part m Rest done after p ends undone = absurd undone
is_below clock part m Trigger done after p ends undone = absurd undone
is_below clock part m (Halt code) done after p ends undone = absurd undone
is_below clock part m (Fault cause pc tval) done after p ends undone =
    let within = p.within in let lt = ends.0 in
    (omega arith, below_by part.limits.pause part.from part.until done p.pause lt)
is_below clock part m Budget done after p ends undone = absurd undone
is_below clock part m Paused done after p ends undone = absurd undone
is_below clock part m NeedFrames done after p ends undone =
    let within = p.within in let lt = ends.0 in
    (omega arith, below_by part.limits.pause part.from part.until done p.pause lt)
is_below clock part m Memory done after p ends undone =
    let within = p.within in let lt = ends.0 in
    (omega arith, below_by part.limits.pause part.from part.until done p.pause lt)

-- ---- pauses

pauses : (clock : ℕ) (part : Part) (m : Machine) (done : ℕ) (after : Machine) → IsPart part →
    after.resting ≡ false → RunsTo clock (limits_of part.limits) part.from m Paused done after →
    EndsPart Paused clock part m done after → Pauses clock part.limits part.from m done after
pauses clock part m done after p awake runs ends =
    let at = ends.0 in
    let budget = ends.1 in
    let forward = p.forward in
    record {
      number = part.until - part.from;
      pause_is = p.early (omega arith);
      done_is = omega arith;
      continues = runs;
      awake = awake;
      trigger = ends.2;
      budget = budget;
    }

below_pause : {P : Type 0} (clock : ℕ) (part : Part) (m : Machine) (done : ℕ) (after : Machine) →
    IsPart part → done < part.until → Pauses clock part.limits part.from m done after → P
below_pause clock part m done after p lt q =
    let most = at_most part.limits.pause part.from part.until q.number q.pause_is p.pause in
    let is = q.done_is in
    absurd (omega arith)

pub pauses_only : (clock : ℕ) (part : Part) (m : Machine) (end : RunEnd) (done : ℕ)
    (after : Machine) → IsPart part → EndsPart end clock part m done after →
    Pauses clock part.limits part.from m done after → end ≡ Paused
pauses_only clock part m Rest done after p ends q = absurd (ends after q.continues)
pauses_only clock part m Trigger done after p ends q = absurd (true≢false (sym ends ∙ q.trigger))
pauses_only clock part m (Halt code) done after p ends q = absurd (ends after q.continues)
pauses_only clock part m (Fault cause pc tval) done after p ends q =
    below_pause clock part m done after p ends.0 q
pauses_only clock part m Budget done after p ends q =
    let budget = q.budget in absurd (omega arith)
pauses_only clock part m Paused done after p ends q = refl
pauses_only clock part m NeedFrames done after p ends q =
    below_pause clock part m done after p ends.0 q
pauses_only clock part m Memory done after p ends q =
    below_pause clock part m done after p ends.0 q

pub pauses_exactly : (clock : ℕ) (part : Part) (m : Machine) (end : RunEnd) (done : ℕ)
    (after : Machine) → IsPart part → (end ≢ Rest → after.resting ≡ false) →
    RunsTo clock (limits_of part.limits) part.from m end done after →
    EndsPart end clock part m done after →
    (end ≡ Paused) ↔ Pauses clock part.limits part.from m done after
pauses_exactly clock part m end done after p awake runs ends = (
  λ e. pauses clock part m done after p (awake (λ r. let f : Rest ≡ Paused = sym r ∙ e in cc))
      (subst (λ x. RunsTo clock (limits_of part.limits) part.from m x done after) e runs)
      (subst (λ x. EndsPart x clock part m done after) e ends),
  pauses_only clock part m end done after p ends,
)

-- ---- want of frames

stops : (takes lacks : Bool) (spares clock : ℕ) (part : Part) (m : Machine) (done : ℕ)
    (after : Machine) → IsPart part → after.resting ≡ false →
    RunsTo clock (limits_of part.limits) part.from m NeedFrames done after →
    EndsPart NeedFrames clock part m done after →
    WantsRightly NeedFrames takes lacks spares clock after →
    StopsForFrames takes spares clock part.limits part.from m done after
stops takes lacks spares clock part m done after p awake runs ends wants =
    let below = is_below clock part m NeedFrames done after p ends tt in
    record {
      continues = runs;
      unstopped = record { awake = awake; trigger = ends.1; budget = below.0; pause = below.1 };
      wants = wants.frames.0 refl;
    }

paused_open : {P : Type 0} (clock : ℕ) (part : Part) (m : Machine) (done : ℕ) (after : Machine) →
    IsPart part → EndsPart Paused clock part m done after →
    IsUnstopped part.limits part.from done after → P
paused_open clock part m done after p ends unstopped =
    let at = ends.0 in
    let budget = ends.1 in
    let forward = p.forward in
    let lt = not_below part.limits.pause part.from part.until done (part.until - part.from)
    (p.early (omega arith)) unstopped.pause in
    absurd (omega arith)

pub stops_only : (takes lacks : Bool) (spares clock : ℕ) (part : Part) (m : Machine)
    (end : RunEnd) (done : ℕ) (after : Machine) → IsPart part →
    EndsPart end clock part m done after →
    (IsUndone end → WantsRightly end takes lacks spares clock after) →
    StopsForFrames takes spares clock part.limits part.from m done after → end ≡ NeedFrames
stops_only takes lacks spares clock part m Rest done after p ends wants s =
    absurd (ends after s.continues)
stops_only takes lacks spares clock part m Trigger done after p ends wants s =
    absurd (true≢false (sym ends ∙ s.unstopped.trigger))
stops_only takes lacks spares clock part m (Halt code) done after p ends wants s =
    absurd (ends after s.continues)
stops_only takes lacks spares clock part m (Fault cause pc tval) done after p ends wants s =
    (wants tt).frames.1 s.wants
stops_only takes lacks spares clock part m Budget done after p ends wants s =
    let budget = s.unstopped.budget in absurd (omega arith)
stops_only takes lacks spares clock part m Paused done after p ends wants s =
    paused_open clock part m done after p ends s.unstopped
stops_only takes lacks spares clock part m NeedFrames done after p ends wants s = refl
stops_only takes lacks spares clock part m Memory done after p ends wants s =
    (wants tt).frames.1 s.wants

pub stops_exactly : (takes lacks : Bool) (spares clock : ℕ) (part : Part) (m : Machine)
    (end : RunEnd) (done : ℕ) (after : Machine) → IsPart part →
    (end ≢ Rest → after.resting ≡ false) →
    RunsTo clock (limits_of part.limits) part.from m end done after →
    EndsPart end clock part m done after →
    (IsUndone end → WantsRightly end takes lacks spares clock after) →
    (end ≡ NeedFrames) ↔ StopsForFrames takes spares clock part.limits part.from m done after
stops_exactly takes lacks spares clock part m end done after p awake runs ends wants = (
  λ e. stops takes lacks spares clock part m done after p
      (awake (λ r. let f : Rest ≡ NeedFrames = sym r ∙ e in cc))
      (subst (λ x. RunsTo clock (limits_of part.limits) part.from m x done after) e runs)
      (subst (λ x. EndsPart x clock part m done after) e ends)
      (subst (λ x. IsUndone x → WantsRightly x takes lacks spares clock after) e wants tt),
  stops_only takes lacks spares clock part m end done after p ends wants,
)

pub memory_only : (takes lacks : Bool) (spares clock : ℕ) (end : RunEnd) (after : Machine) →
    (IsUndone end → WantsRightly end takes lacks spares clock after) → end ≡ Memory →
    lacks ≡ true
memory_only takes lacks spares clock end after wants e =
    let here = subst (λ x. IsUndone x → WantsRightly x takes lacks spares clock after) e wants in
    (here tt).memory refl
