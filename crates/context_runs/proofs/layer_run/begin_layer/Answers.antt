use Rattle.std.proofs.Common.{ap, ◌∙◌}
use Rattle.plan_model.specs.Outline.{Outline}
use Rattle.plan_model.specs.declared.layer.PlanLayer.{PlanLayer}
use Rattle.context_uc.proofs.Captures.{layer_read}
use Rattle.context_runs.proofs.Layering.{layer_begins}
use Rattle.context_runs.proofs.layer_run.begin_layer.Goals as goal

-- src/layer_run.rt:46:1
pub returns-clause-under_way : goal.returns-clause-under_way
returns-clause-under_way g c =
    let above = c.requires.above in
    let read = layer_read _ _ _ _ _ _
    (c.layers.ensures ∙ ap (λ (p : Outline). p.layers) c.plan.ensures) c.from.ensures
    above.above.layer_is in
    layer_begins c.args.context.now (g.S.Space.flat c.args.context.now.space) c.begin.new.self
    c.args.number c.as_slice.result.now above c.is_the_model.ensures.model c.requires.still
    (c.as_slice.ensures ∙ ap (λ (l : PlanLayer). l.packets) (c.index-layers-from.is ∙ read))
    c.in_ok-begin.ensures.ok
