use Rattle.std.proofs.Common.{◌≡◌, None}
use Rattle.std.specs.List.{AllByRecursion, sum_by}
use Rattle.slab.specs.Slab.{entries}
use Rattle.space_api.specs.Holding.{with_returned}
use Rattle.plan_book.proofs.taking.release_all.Given as goal

abbrev pub invariant-layers : goal.invariant-layers
invariant-layers g l =
    (goal.iterator-layers g).can_next l._slot-iterator
    × (goal.iterator-layers g).is_finite l._slot-iterator
    × AllByRecursion (λ e. g.T.Frozen.Held.pin e.1.frozen ≡ None) l._slot-iterator
    × (with_returned 0 (sum_by (λ e. g.T.Frozen.Held.stake e.1.frozen) l._slot-iterator)
    (g.T.Shelf.Stock.stocked l.shelf)
    ≡ with_returned 0 (sum_by (λ e. g.T.Frozen.Held.stake e.1.frozen) (entries l.fn.layers))
    (g.T.Shelf.Stock.stocked l.initial.shelf))
