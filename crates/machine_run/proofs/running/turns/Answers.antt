use Rattle.std.proofs.Common.{◌≡◌, ◌≢◌, ◌<◌, false, subst, arith, rules}
use Rattle.machine_model.specs.Run.{IsTurn, Goes, at_trigger}
use Rattle.machine_run.specs.Frames.{WantsRightly}
use Rattle.machine_run.specs.Turns.{CountedDoes, UncountedDoes}
use Rattle.space_api.specs.Flat.{machine_of}
use Rattle.space_api.proofs.Frames.{spent_join}
use Rattle.machine_run.proofs.Continued.{continues-more}
use Rattle.machine_run.proofs.Ending.{ends-runs_to, counted_at, counted_part, counted_done}
use Rattle.machine_run.proofs.Ending.{uncounted_at, uncounted_part, uncounted_wants}
use Rattle.machine_run.proofs.running.turns.Goals as goal

pub returns-in-Some-clause-runs : goal.returns-in-Some-clause-runs
returns-in-Some-clause-runs g c =
    ends-runs_to _ _ _ _ _ _ _ _ _ c.turns.invariant.continues
    (c.in-Some.ensures.ends _ (g.S.Space.flat c.turns.space) c.turns.ports.traffic)

pub returns-in-Some-clause-part : goal.returns-in-Some-clause-part
returns-in-Some-clause-part g c =
    c.in-Some.ensures.part _ _ (g.S.Space.flat c.turns.space) c.turns.ports.traffic

pub returns-in-Some-clause-wants : goal.returns-in-Some-clause-wants
returns-in-Some-clause-wants g c = λ undone. absurd (c.in-Some.ensures.done undone)

pub turns-preserved : goal.turns-preserved
turns-preserved g c =
    let flat = g.S.Space.flat c.turns.space in
    let here = machine_of c.turns.hart flat c.turns.ports.traffic in
    let new = c.take_turn-turn.new in
    let after = machine_of new.hart (g.S.Space.flat new.space) new.ports.traffic in
    let trigger : at_trigger c.args.part.now.limits.trigger c.turns.number here ≡ false =
    c.in_default.ensures.goes flat c.turns.ports.traffic in
    let below : c.turns.number < c.args.part.now.until = search rules in
    let within = c.requires.part.within in
    let budget : c.turns.number ≢ c.args.part.now.limits.budget = λ e. omega arith in
    let goes : IsTurn here c.args.ports.now.clock (Goes after) =
    subst (λ k. IsTurn here k (Goes after)) c.turns.invariant.clock c.in-Goes.ensures.does in
    record {
      within = omega arith;
      continues = continues-more _ _ _ _ _ _ _ c.turns.invariant.continues trigger budget goes;
      ticks = omega arith;
      clock = search rules;
      resting = search rules;
      spent = spent_join _ _ _ _ _ _ _ c.turns.invariant.spent c.take_turn-turn.ensures.spent;
      finished = c.take_turn-turn.ensures.held.0;
      stake = search rules;
      span = search rules;
    }

pub returns-in-Counted-clause-runs : goal.returns-in-Counted-clause-runs
returns-in-Counted-clause-runs g c =
    let flat = g.S.Space.flat c.turns.space in
    let here = machine_of c.turns.hart flat c.turns.ports.traffic in
    let new = c.take_turn-turn.new in
    let after = machine_of new.hart (g.S.Space.flat new.space) new.ports.traffic in
    let trigger = c.in_default.ensures.goes flat c.turns.ports.traffic in
    let below : c.turns.number < c.args.part.now.until = search rules in
    let within = c.requires.part.within in
    let budget : c.turns.number ≢ c.args.part.now.limits.budget = λ e. omega arith in
    let turn : CountedDoes c.in-Counted.end c.args.ports.now.clock here after =
    subst (λ k. CountedDoes c.in-Counted.end k here after) c.turns.invariant.clock
    c.in-Counted.ensures.does in
    ends-runs_to _ _ _ _ _ _ _ _ _ c.turns.invariant.continues
    (counted_at _ _ _ here after c.in-Counted.end trigger budget turn)

pub returns-in-Counted-clause-part : goal.returns-in-Counted-clause-part
returns-in-Counted-clause-part g c =
    let flat = g.S.Space.flat c.turns.space in
    let here = machine_of c.turns.hart flat c.turns.ports.traffic in
    let new = c.take_turn-turn.new in
    let after = machine_of new.hart (g.S.Space.flat new.space) new.ports.traffic in
    let trigger = c.in_default.ensures.goes flat c.turns.ports.traffic in
    let below : c.turns.number < c.args.part.now.until = search rules in
    let within = c.requires.part.within in
    let budget : c.turns.number ≢ c.args.part.now.limits.budget = λ e. omega arith in
    let turn : CountedDoes c.in-Counted.end c.args.ports.now.clock here after =
    subst (λ k. CountedDoes c.in-Counted.end k here after) c.turns.invariant.clock
    c.in-Counted.ensures.does in
    counted_part _ _ _ _ here after c.in-Counted.end c.turns.invariant.continues trigger budget turn

pub returns-in-Counted-clause-wants : goal.returns-in-Counted-clause-wants
returns-in-Counted-clause-wants g c = λ undone.
    counted_done _ _ _ c.in-Counted.end c.in-Counted.ensures.does undone

pub returns-in-Uncounted-clause-runs : goal.returns-in-Uncounted-clause-runs
returns-in-Uncounted-clause-runs g c =
    let flat = g.S.Space.flat c.turns.space in
    let here = machine_of c.turns.hart flat c.turns.ports.traffic in
    let new = c.take_turn-turn.new in
    let after = machine_of new.hart (g.S.Space.flat new.space) new.ports.traffic in
    let trigger = c.in_default.ensures.goes flat c.turns.ports.traffic in
    let below : c.turns.number < c.args.part.now.until = search rules in
    let within = c.requires.part.within in
    let budget : c.turns.number ≢ c.args.part.now.limits.budget = λ e. omega arith in
    let turn : UncountedDoes c.in-Uncounted.end c.args.ports.now.clock here after =
    subst (λ k. UncountedDoes c.in-Uncounted.end k here after) c.turns.invariant.clock
    c.in-Uncounted.ensures.does in
    ends-runs_to _ _ _ _ _ _ _ _ _ c.turns.invariant.continues
    (uncounted_at _ _ _ here after c.in-Uncounted.end trigger budget turn)

pub returns-in-Uncounted-clause-part : goal.returns-in-Uncounted-clause-part
returns-in-Uncounted-clause-part g c =
    let flat = g.S.Space.flat c.turns.space in
    let here = machine_of c.turns.hart flat c.turns.ports.traffic in
    let new = c.take_turn-turn.new in
    let after = machine_of new.hart (g.S.Space.flat new.space) new.ports.traffic in
    let trigger = c.in_default.ensures.goes flat c.turns.ports.traffic in
    let below : c.turns.number < c.args.part.now.until = search rules in
    let turn : UncountedDoes c.in-Uncounted.end c.args.ports.now.clock here after =
    subst (λ k. UncountedDoes c.in-Uncounted.end k here after) c.turns.invariant.clock
    c.in-Uncounted.ensures.does in
    uncounted_part _ _ _ _ here after c.in-Uncounted.end below trigger turn

pub returns-in-Uncounted-clause-wants : goal.returns-in-Uncounted-clause-wants
returns-in-Uncounted-clause-wants g c = λ undone.
    let takes = g.S.Space.takes_frames in
    let lacks = g.S.Space.lacks_memory in
    let old = g.S.Space.spares c.turns.space in
    let end = c.in-Uncounted.end in
    let here = machine_of c.turns.hart (g.S.Space.flat c.turns.space) c.turns.ports.traffic in
    let new = c.take_turn-turn.new in
    let after = machine_of new.hart (g.S.Space.flat new.space) new.ports.traffic in
    let kept = c.in-Uncounted.ensures.kept (λ e. cc) in
    subst (λ k. WantsRightly end takes lacks (g.S.Space.spares new.space) k after)
    c.turns.invariant.clock
    (uncounted_wants end takes lacks old (g.S.Space.spares new.space) c.turns.ports.clock here
    after c.in-Uncounted.ensures.does kept c.in-Uncounted.ensures.frames
    c.in-Uncounted.ensures.memory)
