use Rattle.std.proofs.Common.{◌≡◌}
use Rattle.std.specs.Vec.Iter.{into_iter_items}
use Rattle.plan_text.specs.Placing.{placed_functions}
use Rattle.plan_tables.proofs.Prepending.{prepended}
use Rattle.plan_text.proofs.placing.placed_functions.Given as goal

abbrev pub invariant-functions : goal.invariant-functions
invariant-functions l =
    (goal.iterator-functions).can_next l.function-iterator
    × (goal.iterator-functions).is_finite l.function-iterator
    × (prepended l.all.items (placed_functions l.layers (into_iter_items l.function-iterator))
    ≡ placed_functions l.layers l.fn.functions.items)
