use Rattle.std.proofs.Common.{ap, ◌∙◌}
use Rattle.layer_model.specs.Layers.{layer_limits}
use Rattle.machine_run.specs.Continued.{limits_of}
use Rattle.context_uc_tests.proofs.Runs.{reached_by}
use Rattle.context_uc_tests.proofs.driving.climb.Goals as goal

-- src/driving.rt:135:11
pub capture-requires-clause-reached : goal.capture-requires-clause-reached
capture-requires-clause-reached g c κs within =
    reached_by c.args.context c.run_asked.new.context (g.T.Space.Space.flat c.args.context.space)
    (g.T.Space.Space.flat c.run_asked.new.context.space) c.args.number c.in_ok-layer.layer.now
    (limits_of c.limits_of_layer.result) c.as_slice.result.now c.in_ok-ended.ended.end
    c.in_ok-ended.ended.done c.run_asked.new.bench.ports.traffic c.is_the_model.ensures.model
    c.in_ok-layer.ensures (c.limits_of_layer.ensures
    ∙ ap (λ plan. layer_limits plan c.in_ok-layer.layer.now) c.plan.ensures) c.as_slice.ensures
    c.in-Trigger.is c.in_ok-ended.ensures.runs c.in_ok-ended.ensures.same
