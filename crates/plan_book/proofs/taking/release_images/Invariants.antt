use Rattle.std.proofs.Common.{◌≡◌, None, length}
use Rattle.std.specs.Prelude.{All}
use Rattle.std.specs.List.{sum_by}
use Rattle.space_api.specs.Holding.{with_returned}
use Rattle.plan_book.proofs.taking.release_images.Given as goal

abbrev pub invariant-images : goal.invariant-images
invariant-images g l = record {
  loose : All (λ i. g.T.Frozen.Held.pin i.frozen ≡ None) l.images.items;
  shelf : with_returned 0 (sum_by (λ i. g.T.Frozen.Held.stake i.frozen) l.images.items)
      (g.T.Shelf.Stock.stocked l.shelf)
      ≡ with_returned 0 (sum_by (λ i. g.T.Frozen.Held.stake i.frozen) l.fn.images.items)
      (g.T.Shelf.Stock.stocked l.initial.shelf);
}

abbrev pub decreases-images : goal.decreases-images
decreases-images g l = length l.images.items
