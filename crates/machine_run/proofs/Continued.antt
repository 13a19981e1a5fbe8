-- Parts of a run join.
use Rattle.std.proofs.Common.{◌≡◌, ◌≢◌, ℕ, suc, ◌+◌, ◌-◌, false, refl, subst, arith, inl, inr}
use Rattle.std.proofs.lemmas.Bool.{cases_eq, cases_lt}
use Rattle.machine_model.specs.Machine.{Machine}
use Rattle.machine_model.specs.Run.{Limits, End, Goes, IsTurn, After, at_trigger, IsStop, Runs}
use Rattle.machine_model.proofs.Runs.{one_after, after_add, after_split, no_stop}
use Rattle.machine_run.specs.Continued.{Continues, Finishes, RunsTo}
use Rattle.machine_run.specs.declared.limits.RunEnd.{RunEnd}
use Rattle.machine_run.specs.declared.limits.RunEnd.TheVariants.{Rest, Trigger, Halt, Fault, Budget, Paused, NeedFrames, Memory}

-- before the first instruction of a part
pub continues-here : (clock : ℕ) (limits : Limits) (from : ℕ) (m : Machine) →
    Continues clock limits from m from m
continues-here clock limits from m = record {
  forward = omega arith;
  reached = subst (λ n. After clock n m m) (let z : 0 ≡ from - from = omega arith in z) refl;
  least = λ earlier le lt mid other there stopped. absurd (omega arith);
}

-- one instruction more, which no stop forbids
pub continues-more : (clock : ℕ) (limits : Limits) (from : ℕ) (m : Machine) (number : ℕ)
    (here after : Machine) → Continues clock limits from m number here →
    at_trigger limits.trigger number here ≡ false → number ≢ limits.budget →
    IsTurn here clock (Goes after) → Continues clock limits from m (number + 1) after
continues-more clock limits from m number here after c trigger budget goes =
    let forward = c.forward in
    let count : suc (number - from) ≡ number + 1 - from = omega arith in
    let reached : After clock (suc (number - from)) m after = (here, c.reached, goes) in
    record {
      forward = omega arith;
      reached = subst (λ n. After clock n m after) count reached;
      least = λ earlier le lt mid other there stopped.
          elim (cases_eq earlier number) [
            | inl same ↦ (
                let to : After clock (number - from) m mid =
                subst (λ n. After clock (n - from) m mid) same there in
                let at = one_after clock (number - from) m mid here to c.reached in
                let now = subst (λ n. IsStop clock limits n mid other) same stopped in
                let stop = subst (λ x. IsStop clock limits number x other) at now in
                no_stop clock limits number here after other trigger budget goes stop)
            | inr before ↦ c.least earlier le (omega arith) mid other there stopped
          ];
    }

-- two parts, of which the other goes on where the one ended
pub continues-join : (clock : ℕ) (limits : Limits) (a : ℕ) (m : Machine) (b : ℕ) (mid : Machine)
    (d : ℕ) (after : Machine) → Continues clock limits a m b mid →
    Continues clock limits b mid d after → Continues clock limits a m d after
continues-join clock limits a m b mid d after p q =
    let ab = p.forward in
    let bd = q.forward in
    let count : b - a + (d - b) ≡ d - a = omega arith in
    record {
      forward = omega arith;
      reached = subst (λ n. After clock n m after) count
          (after_add clock (b - a) (d - b) m mid after p.reached q.reached);
      least = λ earlier le lt at other there stopped.
          elim (cases_lt earlier b) [
            | inl before ↦ p.least earlier le before at other there stopped
            | inr behind ↦ (
                let whole : earlier - a ≡ b - a + (earlier - b) = omega arith in
                let parts = after_split clock (b - a) (earlier - b) m at
                (subst (λ n. After clock n m at) whole there) in
                let same = one_after clock (b - a) m parts.0 mid parts.1 p.reached in
                q.least earlier behind lt at other
                (subst (λ x. After clock (earlier - b) x at) same parts.2) stopped)
          ];
    }

pub finishes-join : (clock : ℕ) (limits : Limits) (a : ℕ) (m : Machine) (b : ℕ) (mid : Machine)
    (end : End) → Continues clock limits a m b mid → Finishes clock limits b mid end →
    Finishes clock limits a m end
finishes-join clock limits a m b mid end p q = record {
  number = q.number;
  at = q.at;
  continues = continues-join clock limits a m b mid q.number q.at p q.continues;
  stopped = q.stopped;
}

pub runs_to-join : (clock : ℕ) (limits : Limits) (a : ℕ) (m : Machine) (b : ℕ) (mid : Machine)
    (end : RunEnd) (done : ℕ) (after : Machine) → Continues clock limits a m b mid →
    RunsTo clock limits b mid end done after → RunsTo clock limits a m end done after
runs_to-join clock limits a m b mid Rest done after p q =
    finishes-join clock limits a m b mid _ p q
runs_to-join clock limits a m b mid Trigger done after p q =
    finishes-join clock limits a m b mid _ p q
runs_to-join clock limits a m b mid (Halt code) done after p q =
    finishes-join clock limits a m b mid _ p q
runs_to-join clock limits a m b mid (Fault cause pc tval) done after p q =
    finishes-join clock limits a m b mid _ p q
runs_to-join clock limits a m b mid Budget done after p q =
    finishes-join clock limits a m b mid _ p q
runs_to-join clock limits a m b mid Paused done after p q =
    continues-join clock limits a m b mid done after p q
runs_to-join clock limits a m b mid NeedFrames done after p q =
    continues-join clock limits a m b mid done after p q
runs_to-join clock limits a m b mid Memory done after p q =
    continues-join clock limits a m b mid done after p q

-- from the first instruction on to the first stop is a run
pub finishes-runs : (clock : ℕ) (limits : Limits) (m : Machine) (end : End) →
    Finishes clock limits 0 m end → Runs clock limits m end
finishes-runs clock limits m end f = record {
  number = f.number;
  at = f.at;
  reached = subst (λ n. After clock n m f.at)
      (let z : f.number - 0 ≡ f.number = omega arith in z) f.continues.reached;
  stopped = f.stopped;
  least = λ earlier lt mid other there stopped.
      f.continues.least earlier (omega arith) lt mid other
      (subst (λ n. After clock n m mid) (let z : earlier ≡ earlier - 0 = omega arith in z) there)
      stopped;
}
