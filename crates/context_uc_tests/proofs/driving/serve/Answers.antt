use Rattle.std.proofs.Common.{rules, ap, ◌∙◌}
use Rattle.layer_model.specs.Replies.{request_limits}
use Rattle.machine_run.specs.Continued.{limits_of}
use Rattle.context_uc_tests.proofs.Runs.{rested_by}
use Rattle.context_uc_tests.proofs.driving.serve.Goals as goal

-- src/driving.rt:173:9
pub served_one-requires-clause-rested : goal.served_one-requires-clause-rested
served_one-requires-clause-rested g c =
    rested_by c.args.context.now c.run_asked.new.context (g.S.Space.flat c.args.context.now.space)
    (g.S.Space.flat c.run_asked.new.context.space) c.args.given
    (limits_of c.limits_of_request.result) c.from_ref.result.now c.in_ok-ended.ended.end
    c.in_ok-ended.ended.done c.run_asked.new.bench.ports.traffic c.is_the_model.ensures.model
    (search rules) (c.limits_of_request.ensures ∙ ap request_limits c.plan.ensures)
    c.from_ref.ensures.value c.in-Rest.is c.in_ok-ended.ensures.runs c.in_ok-ended.ensures.same
