use Rattle.std.proofs.Common.{◌≡◌, true}
use Rattle.space_api.specs.Stores.{frozen_of}
use Rattle.book_core_tests.specs.Images.{HasOpened, AreImages, stakes}
use Rattle.book_core_tests.specs.Told.{kept_of}
use Rattle.book_core_tests.proofs.opening.all_opened.Given as goal

abbrev pub invariant-loop-start : goal.invariant-loop-start
invariant-loop-start g l = record {
  images : AreImages l.images.items
      (λ i. kept_of i.number i.start i.hart
      (frozen_of (g.T.Frozen.FrozenMemory.flat i.frozen) (g.T.Frozen.FrozenMemory.image i.frozen)))
      (λ i. g.T.Frozen.Held.pin i.frozen) l.start;
  shelf : g.T.Space.Space.takes_frames ≡ true → HasOpened l.start
      (stakes l.images.items (λ i. g.T.Frozen.Held.stake i.frozen))
      (g.T.Shelf.Stock.stocked l.initial.shelf) (g.T.Shelf.Stock.stocked l.shelf);
}
