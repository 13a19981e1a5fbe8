use Rattle.std.proofs.Common.{◌∙◌}
use Rattle.plan_book.proofs.Openable.{images_more}
use Rattle.plan_book.proofs.opening.images_of.Goals as goal

pub loop-start-preserved : goal.loop-start-preserved
loop-start-preserved g c = record {
  images = images_more g.T.Frozen.FrozenMemory.flat g.T.Frozen.FrozenMemory.image
      g.T.Frozen.Held.pin g.T.Frozen.Held.stake c.args.plan.now c.loop-start.start
      c.in_ok-image.image c.loop-start.images.items _ c.loop-start.invariant.images
      c.in_ok-image.ensures.image c.in_ok-add.ensures;
  shelf = c.in_ok-image.ensures.shelf ∙ c.loop-start.invariant.shelf;
}
