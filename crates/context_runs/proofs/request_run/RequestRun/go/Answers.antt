use Rattle.std.proofs.Common.{◌≡◌, ◌≤◌, refl, ap, ◌∙◌, subst}
use Rattle.layer_model.specs.Replies.{request_limits}
use Rattle.machine_model.specs.Run.{Limits}
use Rattle.machine_run.specs.Continued.{limits_of}
use Rattle.context_runs.proofs.Requesting.{request_goes}
use Rattle.context_runs.proofs.request_run.RequestRun.go.Goals as goal

-- src/request_run.rt:68:5
pub returns-clause-ends : goal.returns-clause-ends
returns-clause-ends g c =
    let plan = c.args.context.now.plan in
    let limits_are : limits_of c.request_stops-limits.result ≡ request_limits plan
    = c.request_stops-limits.ensures.limits ∙ ap request_limits c.plan.ensures in
    let within : c.run_part-end.new.progress.done ≤ plan.numbers.budget
    = subst (λ (l : Limits). c.run_part-end.new.progress.done ≤ l.budget) limits_are
    c.run_part-end.ensures.within.1 in
    request_goes c.args.context.now c.run_part-end.new.context
    (g.S.Space.flat c.args.context.now.space) (g.S.Space.flat c.run_part-end.new.context.space)
    c.args.ports.now c.run_part-end.new.ports c.args.self.now _ c.run_part-end.result
    (limits_of c.request_stops-limits.result) c.requires.under_way c.run_part-end.ensures.same
    refl c.run_part-end.ensures.clock within limits_are c.run_part-end.ensures.ends
