use Rattle.std.proofs.Common.{◌≡◌, ◌≤◌, refl, ap, ◌∙◌, subst}
use Rattle.layer_model.specs.Layers.{layer_limits}
use Rattle.machine_model.specs.Run.{Limits}
use Rattle.machine_run.specs.Continued.{limits_of}
use Rattle.plan_model.specs.Outline.{Outline}
use Rattle.context_uc.proofs.Captures.{layer_read}
use Rattle.context_runs.proofs.Layering.{layer_goes, layer_in_time, limits_read}
use Rattle.context_runs.proofs.layer_run.LayerRun.go.Goals as goal

-- src/layer_run.rt:69:5
pub returns-clause-ends : goal.returns-clause-ends
returns-clause-ends g c =
    let u = c.requires.under_way in
    let plan = c.args.context.now.plan in
    let layer = u.is_above.above.layer in
    let read = layer_read _ _ _ _ _ _
    (c.layers.ensures ∙ ap (λ (p : Outline). p.layers) c.plan-plan.ensures) c.from.ensures
    u.is_above.above.layer_is in
    let limits_are : limits_of c.layer_stops-limits.result ≡ layer_limits plan layer
    = limits_read plan c.plan-plan.result.now layer _ _ c.layer_stops-limits.ensures.limits
    c.plan-plan.ensures (c.index-layers-from.is ∙ read) in
    let within : c.run_part-end.new.progress.done ≤ plan.numbers.prepare
    = subst (λ (l : Limits). c.run_part-end.new.progress.done ≤ l.budget) limits_are
    c.run_part-end.ensures.within.1 in
    layer_goes c.args.context.now c.run_part-end.new.context
    (g.S.Space.flat c.args.context.now.space) (g.S.Space.flat c.run_part-end.new.context.space)
    c.args.ports.now c.run_part-end.new.ports c.args.self.now _ c.run_part-end.result
    (limits_of c.layer_stops-limits.result) u c.run_part-end.ensures.same refl
    c.run_part-end.ensures.clock within limits_are c.run_part-end.ensures.ends

-- src/layer_run.rt:69:5
pub returns-clause-in_time : goal.returns-clause-in_time
returns-clause-in_time g c =
    let u = c.requires.under_way in
    let plan = c.args.context.now.plan in
    let layer = u.is_above.above.layer in
    let read = layer_read _ _ _ _ _ _
    (c.layers.ensures ∙ ap (λ (p : Outline). p.layers) c.plan-plan.ensures) c.from.ensures
    u.is_above.above.layer_is in
    let limits_are : limits_of c.layer_stops-limits.result ≡ layer_limits plan layer
    = limits_read plan c.plan-plan.result.now layer _ _ c.layer_stops-limits.ensures.limits
    c.plan-plan.ensures (c.index-layers-from.is ∙ read) in
    layer_in_time g.S.Space.lacks_memory plan c.args.self.now.number layer
    (limits_of c.layer_stops-limits.result) c.layer_stops-limits.result.pause c.args.pause
    c.run_part-end.result c.args.self.now.done c.run_part-end.new.progress.done _
    u.is_above.above.layer_is limits_are c.layer_stops-limits.ensures.pause
    c.run_part-end.ensures.in_time
