use Rattle.std.proofs.Common.{◌≡◌}
use Rattle.plan_book.specs.Opened.{AreImages}
use Rattle.plan_book.proofs.opening.images_of.Given as goal

abbrev pub invariant-loop-start : goal.invariant-loop-start
invariant-loop-start g l = record {
  images : AreImages g.T.Frozen.FrozenMemory.flat g.T.Frozen.FrozenMemory.image
      g.T.Frozen.Held.pin g.T.Frozen.Held.stake l.plan l.start l.images.items;
  shelf : g.T.Shelf.Stock.stocked l.shelf ≡ g.T.Shelf.Stock.stocked l.initial.shelf;
}
