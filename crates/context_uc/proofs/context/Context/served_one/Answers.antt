use Rattle.std.proofs.Common.{◌<◌, subst, sym, true, length, arith}
use Rattle.space_api.specs.Holding.{holding_of}
use Rattle.context_uc.specs.Runs.{HasRested}
use Rattle.context_uc.specs.Views.{ContextView, IsSound}
use Rattle.context_uc.proofs.Requests.{served_is_sound}
use Rattle.context_uc.proofs.context.Context.served_one.Goals as goal

-- src/context.rt:181:5
pub invariant_of-self : goal.invariant_of-self
invariant_of-self g c =
    let old : ContextView g.row.S.Denot = record {
      plan = c.self.inside.plan.now;
      id = c.self.inside.id;
      function = c.self.inside.function;
      layer = c.self.inside.layer;
      served = c.self.inside.served.items;
      uses = c.self.inside.uses;
      stripped = c.self.inside.stripped;
      still = c.self.inside.still;
      hart = c.self.inside.hart;
      space = c.self.inside.space;
    } in
    let flat = g.S.Space.flat c.self.inside.space in
    let finished = g.S.Space.finished c.self.inside.space in
    let held = holding_of (g.S.Held.stake c.self.inside.space)
    (g.S.Held.span c.self.inside.space) (g.S.Held.pin c.self.inside.space) in
    let rested : HasRested old flat c.args.given
    = subst (λ (v : ContextView g.row.S.Denot).
    HasRested v (g.S.Space.flat v.space) c.args.given) (sym c.self.view_is) c.requires.rested in
    let room = subst (λ (v : ContextView g.row.S.Denot). length v.served < v.uses)
    (sym c.self.view_is) c.requires.room in (
      omega (arith, c.self.invariant.0, c.push_reserved.ensures.capacity),
      subst (λ served. IsSound g.S.Space.takes_frames (record old {
        served = served;
        still = true;
      }) flat finished held) (sym c.push_reserved.ensures.items)
          (served_is_sound g.S.Space.takes_frames old c.args.given flat finished held rested room
          c.self.invariant.1),
    )
