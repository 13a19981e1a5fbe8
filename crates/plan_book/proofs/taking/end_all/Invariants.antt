use Rattle.std.proofs.Common.{◌≡◌, None}
use Rattle.std.specs.List.{AllByRecursion, sum_by}
use Rattle.slab.specs.Slab.{entries}
use Rattle.space_api.specs.Holding.{with_returned}
use Rattle.plan_book.proofs.taking.end_all.Given as goal

abbrev pub invariant-contexts : goal.invariant-contexts
invariant-contexts g l =
    (goal.iterator-contexts g).can_next l._slot-iterator
    × (goal.iterator-contexts g).is_finite l._slot-iterator
    × AllByRecursion (λ e. g.T.Space.Held.pin e.1.space ≡ None) l._slot-iterator
    × (with_returned 0 (sum_by (λ e. g.T.Space.Held.stake e.1.space) l._slot-iterator)
    (g.T.Shelf.Stock.stocked l.shelf)
    ≡ with_returned 0 (sum_by (λ e. g.T.Space.Held.stake e.1.space) (entries l.fn.contexts))
    (g.T.Shelf.Stock.stocked l.initial.shelf))
