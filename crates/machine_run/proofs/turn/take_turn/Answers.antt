use Rattle.std.proofs.Common.{◌≡◌, ◌↔◌, ℕ, rules, refl, subst}
use Rattle.hyper_calls.specs.Outcomes as outcomes
use Rattle.hyper_calls.specs.declared.call_end.CallEnd.TheVariants as call_end
use Rattle.machine_model.specs.Instruction.{Retires}
use Rattle.machine_model.specs.Machine.{Machine}
use Rattle.space_api.specs.Flat.{machine_of}
use Rattle.space_api.proofs.Frames.{spent_join}
use Rattle.machine_run.proofs.Frames.{from_step, from_call, of_call, none_wanted}
use Rattle.machine_run.proofs.Turns.{retired_turn, trapped_turn}
use Rattle.machine_run.proofs.turn.take_turn.Goals as goal

pub returns-in-Retired-clause-does : goal.returns-in-Retired-clause-does
returns-in-Retired-clause-does g c =
    retired_turn _ _ _ (c.in-Retired.ensures.does c.args.ports.now.traffic)

pub returns-in-Retired-clause-frames : goal.returns-in-Retired-clause-frames
returns-in-Retired-clause-frames g c =
    let traffic = c.args.ports.now.traffic in
    let old = machine_of c.args.hart.now (g.S.Space.flat c.args.space.now) traffic in
    let new = machine_of c.step.new.hart (g.S.Space.flat c.step.new.space) traffic in (
      λ e. cc,
      λ w. none_wanted g.S.Space.takes_frames (g.S.Space.spares c.args.space.now)
          c.args.ports.now.clock old (Retires new) (c.in-Retired.ensures.does traffic) (λ e. cc)
          (λ s. let e = (c.in-Retired.ensures.frames traffic).1 s in cc) w,
    )

pub returns-in-Call-clause-frames : goal.returns-in-Call-clause-frames
returns-in-Call-clause-frames g c =
    let traffic = c.args.ports.now.traffic in
    let takes = g.S.Space.takes_frames in
    let spares = g.S.Space.spares c.args.space.now in
    let clock = c.args.ports.now.clock in
    let old = machine_of c.args.hart.now (g.S.Space.flat c.args.space.now) traffic in
    let here = machine_of c.step.new.hart (g.S.Space.flat c.step.new.space) traffic in
    let same : here ≡ old = search rules in
    let held : g.S.Space.spares c.step.new.space ≡ spares = c.in-Call.ensures.kept.2 in
    let Wants : ℕ → Machine → Type 0 = λ n m. (c.call.result ≡ call_end.NeedFrames)
    ↔ outcomes.WantsFrames takes n clock m in
    let wants : Wants spares old =
    subst (Wants spares) same (subst (λ n. Wants n here) held c.call.ensures.frames) in (
      λ e. from_call takes spares clock old (c.in-Call.ensures.does traffic)
          (wants.0 (c.turn_of.ensures.frames.0 e)),
      λ w. c.turn_of.ensures.frames.1 (wants.1 (of_call takes spares clock old
          (λ s. let e = (c.in-Call.ensures.frames traffic).1 s in cc) w)),
    )

pub returns-in-Call-clause-spent : goal.returns-in-Call-clause-spent
returns-in-Call-clause-spent g c =
    spent_join _ _ _ _ _ _ _ c.in-Call.ensures.spent c.call.ensures.spent

pub returns-in-Trap-clause-does : goal.returns-in-Trap-clause-does
returns-in-Trap-clause-does g c =
    let traffic = c.args.ports.now.traffic in
    let same : machine_of c.step.new.hart (g.S.Space.flat c.step.new.space) traffic
    ≡ machine_of c.args.hart.now (g.S.Space.flat c.args.space.now) traffic =
    search rules in
    trapped_turn _ _ _ _ _ (c.in-Trap.ensures.does traffic) same

pub returns-in-Trap-clause-frames : goal.returns-in-Trap-clause-frames
returns-in-Trap-clause-frames g c =
    let traffic = c.args.ports.now.traffic in
    let old = machine_of c.args.hart.now (g.S.Space.flat c.args.space.now) traffic in (
      λ e. cc,
      λ w. none_wanted g.S.Space.takes_frames (g.S.Space.spares c.args.space.now)
          c.args.ports.now.clock old _ (c.in-Trap.ensures.does traffic) (λ e. cc)
          (λ s. let e = (c.in-Trap.ensures.frames traffic).1 s in cc) w,
    )

pub returns-in-NeedFrames-clause-frames : goal.returns-in-NeedFrames-clause-frames
returns-in-NeedFrames-clause-frames g c =
    let traffic = c.args.ports.now.traffic in
    let old = machine_of c.args.hart.now (g.S.Space.flat c.args.space.now) traffic in (
      λ e. from_step g.S.Space.takes_frames (g.S.Space.spares c.args.space.now)
          c.args.ports.now.clock old ((c.in-NeedFrames.ensures.frames traffic).0 refl),
      λ w. refl,
    )

pub returns-in-Memory-clause-frames : goal.returns-in-Memory-clause-frames
returns-in-Memory-clause-frames g c =
    let traffic = c.args.ports.now.traffic in
    let old = machine_of c.args.hart.now (g.S.Space.flat c.args.space.now) traffic in
    let does = c.in-Memory.ensures.does traffic in (
      λ e. cc,
      λ w. none_wanted g.S.Space.takes_frames (g.S.Space.spares c.args.space.now)
          c.args.ports.now.clock old (Retires does.0) does.1 (λ e. cc)
          (λ s. let e = (c.in-Memory.ensures.frames traffic).1 s in cc) w,
    )
