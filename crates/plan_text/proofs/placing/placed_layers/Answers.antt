use Rattle.std.proofs.Common.{◌≡◌, ◌∷◌, [], arith, rules}
use Rattle.std.proofs.lemmas.Grind.{common_steps}
use Rattle.std.proofs.lemmas.Result.{err_from_is_err_and}
use Rattle.std.specs.Vec.Iter.{into_iter_items}
use Rattle.plan_text.proofs.Placed.{ArePlaced, placed_more, placed_nowhere, placed_whole}
use Rattle.plan_text.proofs.Placed.{placed_right}
use Rattle.plan_text.proofs.placing.placed_layers.Goals as goal

pub layers-preserved : goal.layers-preserved
layers-preserved c =
    let all = c.args.layers.items in
    let rest = into_iter_items c.next.new.self in
    let before = c.layers.placed.layers.items in
    let images = c.layers.placed.images.items in
    let steps = c.in-Some.ensures.steps.0 in
    let old : ArePlaced all (c.in-Some.layer ∷ rest) before images =
    rw (← steps) c.layers.invariant.2 in
    let done = c.in_ok-place.ensures.done in (
      tt,
      tt,
      rw (done.2, c.in_ok-place.ensures.images)
          (placed_more all rest c.in-Some.layer before images done.0 old done.1),
    )

pub returns-in_err-place-clause-fault : goal.returns-in_err-place-clause-fault
returns-in_err-place-clause-fault c =
    let all = c.args.layers.items in
    let rest = into_iter_items c.next.new.self in
    let before = c.layers.placed.layers.items in
    let images = c.layers.placed.images.items in
    let steps = c.in-Some.ensures.steps.0 in
    let old : ArePlaced all (c.in-Some.layer ∷ rest) before images =
    rw (← steps) c.layers.invariant.2 in
    let p = err_from_is_err_and c.from_residual-in_err-place.result
    c.from_residual-in_err-place.ensures.1 in
    rw (p.1, p.2) (λ named.
    let told = c.in_err-place.ensures.fault named in
    rw told.0 (placed_nowhere all rest c.in-Some.layer before images old told.1))

pub returns-clause-fault : goal.returns-clause-fault
returns-clause-fault c =
    let none : into_iter_items c.layers.layer-iterator ≡ [] =
    first_of (search rules, grind (arith, common_steps)) in
    placed_right c.args.layers.items c.layers.placed.layers.items c.layers.placed.images.items
    (rw none at c.layers.invariant.2)

pub returns-clause-layers : goal.returns-clause-layers
returns-clause-layers c =
    let none : into_iter_items c.layers.layer-iterator ≡ [] =
    first_of (search rules, grind (arith, common_steps)) in
    placed_whole c.args.layers.items c.layers.placed.layers.items c.layers.placed.images.items
    (rw none at c.layers.invariant.2)
