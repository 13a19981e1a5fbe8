use Rattle.std.proofs.Common.{◌≡◌, subst, sym, ap, refl, true, Some, None}
use Rattle.space_api.specs.Holding.{holding_of}
use Rattle.space_api.specs.Stores.{Frozen, frozen_of, spaced_of}
use Rattle.context_uc.specs.Runs.{HasReached}
use Rattle.context_uc.specs.Takes.{Takes}
use Rattle.context_uc.specs.Views.{ContextView, LayerView}
use Rattle.context_uc.specs.declared.capturing.Taken.TheVariants.{Done}
use Rattle.context_uc.proofs.Captures.{layer_read, kept_stands, start_read, taken_is_sound}
use Rattle.context_uc.proofs.capturing.capture.Goals as goal

-- src/capturing.rt:62:13
pub invariant_of-result : goal.invariant_of-result
invariant_of-result g c =
    let old : ContextView g.row.T-Space.Denot = record {
      plan = c.context.inside.plan.now;
      id = c.context.inside.id;
      function = c.context.inside.function;
      layer = c.context.inside.layer;
      served = c.context.inside.served.items;
      uses = c.context.inside.uses;
      stripped = c.context.inside.stripped;
      still = c.context.inside.still;
      hart = c.context.inside.hart;
      space = c.context.inside.space;
    } in
    let reached : HasReached old (g.T.Space.Space.flat c.context.inside.space) c.args.number
    = subst (λ (v : ContextView g.row.T-Space.Denot).
    HasReached v (g.T.Space.Space.flat v.space) c.args.number) (sym c.context.view_is)
    c.requires.reached in
    kept_stands old (g.T.Space.Space.flat c.context.inside.space) c.args.number _
    (g.T.Frozen.FrozenMemory.flat c.in-Done.frozen) c.is_sound.ensures.parts reached
    (layer_read _ _ _ _ _ _ c.layers.ensures c.from.ensures reached.layer_is)
    (ap (λ (f : Frozen). f.flat) c.in-Done.ensures.1.kept_is)

-- src/capturing.rt:62:13
pub invariant_of-result-in-Done : goal.invariant_of-result-in-Done
invariant_of-result-in-Done g c =
    let old : ContextView g.row.T-Space.Denot = record {
      plan = c.context.inside.plan.now;
      id = c.context.inside.id;
      function = c.context.inside.function;
      layer = c.context.inside.layer;
      served = c.context.inside.served.items;
      uses = c.context.inside.uses;
      stripped = c.context.inside.stripped;
      still = c.context.inside.still;
      hart = c.context.inside.hart;
      space = c.context.inside.space;
    } in
    let reached : HasReached old (g.T.Space.Space.flat c.context.inside.space) c.args.number
    = subst (λ (v : ContextView g.row.T-Space.Denot).
    HasReached v (g.T.Space.Space.flat v.space) c.args.number) (sym c.context.view_is)
    c.requires.reached in
    let loose = subst (λ (v : ContextView g.row.T-Space.Denot).
    g.T.Space.Held.pin v.space ≡ None) (sym c.context.view_is) c.requires.loose in (
      c.context.invariant.0,
      taken_is_sound g.T.Space.Space.takes_frames old c.in-Done.space c.args.number
          (g.T.Space.Space.flat c.context.inside.space) (g.T.Space.Space.flat c.in-Done.space)
          (g.T.Space.Space.finished c.context.inside.space)
          (g.T.Space.Space.finished c.in-Done.space)
          (holding_of (g.T.Space.Held.stake c.context.inside.space)
          (g.T.Space.Held.span c.context.inside.space) (g.T.Space.Held.pin c.context.inside.space))
          (holding_of (g.T.Space.Held.stake c.in-Done.space)
          (g.T.Space.Held.span c.in-Done.space) (g.T.Space.Held.pin c.in-Done.space))
          c.is_sound.ensures.parts reached c.context.invariant.1 loose
          c.in-Done.ensures.0.flat_is c.in-Done.ensures.0.finished_is
          c.in-Done.ensures.1.stake_falls c.in-Done.ensures.1.pin_stays,
    )

-- src/capturing.rt:27:1
pub returns-in-Done : goal.returns-in-Done
returns-in-Done g c =
    let old : ContextView g.row.T-Space.Denot = record {
      plan = c.context.inside.plan.now;
      id = c.context.inside.id;
      function = c.context.inside.function;
      layer = c.context.inside.layer;
      served = c.context.inside.served.items;
      uses = c.context.inside.uses;
      stripped = c.context.inside.stripped;
      still = c.context.inside.still;
      hart = c.context.inside.hart;
      space = c.context.inside.space;
    } in
    let reached : HasReached old (g.T.Space.Space.flat c.context.inside.space) c.args.number
    = subst (λ (v : ContextView g.row.T-Space.Denot).
    HasReached v (g.T.Space.Space.flat v.space) c.args.number) (sym c.context.view_is)
    c.requires.reached in
    let read = layer_read _ _ _ _ _ _ c.layers.ensures c.from.ensures reached.layer_is in
    let layer : LayerView g.row.T-Frozen.Denot = record {
      plan = old.plan;
      number = Some c.args.number;
      start = _;
      hart = old.hart;
      frozen = c.in-Done.frozen;
    } in
    let new : ContextView g.row.T-Space.Denot = record old {
      layer = Some c.args.number;
      still = true;
      space = c.in-Done.space;
    } in
    subst (λ (v : ContextView g.row.T-Space.Denot). Takes g.T.Space.Space.takes_frames
    g.T.Space.Space.lacks_memory
    (λ z. frozen_of (g.T.Frozen.FrozenMemory.flat z) (g.T.Frozen.FrozenMemory.image z))
    (λ z. holding_of (g.T.Frozen.Held.stake z) (g.T.Frozen.Held.span z) (g.T.Frozen.Held.pin z))
    (λ s. spaced_of (g.T.Space.Space.flat s) (g.T.Space.Space.spares s)
    (g.T.Space.Space.finished s))
    (λ s. holding_of (g.T.Space.Held.stake s) (g.T.Space.Held.span s) (g.T.Space.Held.pin s))
    c.args.number v (Done layer new c.in-Done.pages)) c.context.view_is (
      record {
        plan_is = refl;
        number_is = refl;
        start_is = start_read _ _ _ reached.layer_is read;
        hart_is = refl;
        context_is = refl;
      },
      c.in-Done.ensures.0,
      c.in-Done.ensures.1,
      c.in-Done.ensures.2,
    )
