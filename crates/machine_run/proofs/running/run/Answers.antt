use Rattle.std.proofs.Common.{◌≡◌, ◌≢◌, ◌↔◌, ◌<◌, ◌+◌, false, IfSome, sym, ◌∙◌}
use Rattle.std.proofs.lemmas.Bool.{true≢false}
use Rattle.space_api.specs.Flat.{machine_of}
use Rattle.machine_run.specs.Continued.{limits_of, RunsTo}
use Rattle.machine_run.specs.Stopping.{Pauses, StopsForFrames}
use Rattle.machine_run.specs.declared.limits.RunEnd.TheVariants.{Rest, Paused, NeedFrames}
use Rattle.machine_run.proofs.Stopping.{moved, is_below, pauses_exactly, stops_exactly, memory_only}
use Rattle.machine_run.proofs.Waking.{rests_on, runs_on}
use Rattle.machine_run.proofs.running.run.Goals as goal

pub returns-then-hart-clause-runs : goal.returns-then-hart-clause-runs
returns-then-hart-clause-runs g c =
    let woke = c.wake.ensures (g.S.Space.flat c.args.space.now) in
    rests_on _ _ _ _ _ woke c.if-hart.true

pub returns-then-hart-clause-paused : goal.returns-then-hart-clause-paused
returns-then-hart-clause-paused g c = (
  λ e. cc,
  λ p. absurd (true≢false (sym c.if-hart.true ∙ p.awake)),
)

pub returns-then-hart-clause-frames : goal.returns-then-hart-clause-frames
returns-then-hart-clause-frames g c = (
  λ e. cc,
  λ s. absurd (true≢false (sym c.if-hart.true ∙ s.unstopped.awake)),
)

pub returns-clause-runs : goal.returns-clause-runs
returns-clause-runs g c =
    let woke = c.wake.ensures (g.S.Space.flat c.args.space.now) in
    let part = c.part_of-part.ensures in
    let end = c.turns-end.result.0 in
    let done = c.turns-end.result.1 in
    let new = c.turns-end.new in
    let after = machine_of new.hart (g.S.Space.flat new.space) new.ports.traffic in
    let begun = machine_of c.wake.new.hart (g.S.Space.flat c.args.space.now)
    c.args.ports.now.traffic in
    runs_on _ _ _ _ begun end done after woke c.if-hart.false
    (moved (λ l f m. RunsTo c.args.ports.now.clock (limits_of l) f m end done after) _ _ _ _ _ _
    part.limits part.from (λ i. begun) c.turns-end.ensures.runs)

pub returns-clause-below : goal.returns-clause-below
returns-clause-below g c = λ undone.
    let part = c.part_of-part.ensures in
    let end = c.turns-end.result.0 in
    let done = c.turns-end.result.1 in
    let new = c.turns-end.new in
    let after = machine_of new.hart (g.S.Space.flat new.space) new.ports.traffic in
    let begun = machine_of c.wake.new.hart (g.S.Space.flat c.args.space.now)
    c.args.ports.now.traffic in
    moved (λ l f m. (done < l.budget) × IfSome l.pause (λ n. done < f + n)) _ _ _ _ _ _ part.limits
    part.from (λ i. begun)
    (is_below c.args.ports.now.clock c.part_of-part.result begun end done after part.part
    c.turns-end.ensures.part undone)

pub returns-clause-paused : goal.returns-clause-paused
returns-clause-paused g c =
    let woke = c.wake.ensures (g.S.Space.flat c.args.space.now) in
    let clock = c.args.ports.now.clock in
    let part = c.part_of-part.ensures in
    let end = c.turns-end.result.0 in
    let done = c.turns-end.result.1 in
    let new = c.turns-end.new in
    let after = machine_of new.hart (g.S.Space.flat new.space) new.ports.traffic in
    let begun = machine_of c.wake.new.hart (g.S.Space.flat c.args.space.now)
    c.args.ports.now.traffic in
    let awake : end ≢ Rest → after.resting ≡ false = λ other.
    c.turns-end.ensures.resting other ∙ c.if-hart.false in
    moved (λ l f m. (end ≡ Paused) ↔ Pauses clock l f m done after) _ _ _ _ _ _ part.limits
    part.from woke
    (pauses_exactly clock c.part_of-part.result begun end done after part.part awake
    c.turns-end.ensures.runs c.turns-end.ensures.part)

pub returns-clause-frames : goal.returns-clause-frames
returns-clause-frames g c =
    let woke = c.wake.ensures (g.S.Space.flat c.args.space.now) in
    let clock = c.args.ports.now.clock in
    let takes = g.S.Space.takes_frames in
    let part = c.part_of-part.ensures in
    let end = c.turns-end.result.0 in
    let done = c.turns-end.result.1 in
    let new = c.turns-end.new in
    let spares = g.S.Space.spares new.space in
    let after = machine_of new.hart (g.S.Space.flat new.space) new.ports.traffic in
    let begun = machine_of c.wake.new.hart (g.S.Space.flat c.args.space.now)
    c.args.ports.now.traffic in
    let awake : end ≢ Rest → after.resting ≡ false = λ other.
    c.turns-end.ensures.resting other ∙ c.if-hart.false in
    moved (λ l f m. (end ≡ NeedFrames) ↔ StopsForFrames takes spares clock l f m done after)
    _ _ _ _ _ _ part.limits part.from woke
    (stops_exactly takes g.S.Space.lacks_memory spares clock c.part_of-part.result begun end done
    after part.part awake c.turns-end.ensures.runs c.turns-end.ensures.part
    c.turns-end.ensures.wants)

pub returns-clause-memory : goal.returns-clause-memory
returns-clause-memory g c =
    let new = c.turns-end.new in
    let after = machine_of new.hart (g.S.Space.flat new.space) new.ports.traffic in
    memory_only g.S.Space.takes_frames g.S.Space.lacks_memory (g.S.Space.spares new.space)
    c.args.ports.now.clock c.turns-end.result.0 after c.turns-end.ensures.wants
