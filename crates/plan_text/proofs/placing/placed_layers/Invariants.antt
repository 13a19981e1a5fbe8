use Rattle.std.specs.Vec.Iter.{into_iter_items}
use Rattle.plan_text.proofs.Placed.{ArePlaced}
use Rattle.plan_text.proofs.placing.placed_layers.Given as goal

abbrev pub invariant-layers : goal.invariant-layers
invariant-layers l =
    (goal.iterator-layers).can_next l.layer-iterator
    × (goal.iterator-layers).is_finite l.layer-iterator
    × ArePlaced l.fn.layers.items (into_iter_items l.layer-iterator) l.placed.layers.items
    l.placed.images.items
