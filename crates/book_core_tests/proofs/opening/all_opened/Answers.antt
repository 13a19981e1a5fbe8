use Rattle.book_core_tests.proofs.Images.{images_with, opened_with}
use Rattle.book_core_tests.proofs.opening.all_opened.Goals as goal

pub loop-start-preserved : goal.loop-start-preserved
loop-start-preserved g c = record {
  images = images_with _ _ c.loop-start.images.items _ c.in_ok-image.image c.loop-start.start
      c.in_ok-add.ensures c.loop-start.invariant.images c.in_ok-image.ensures.image;
  shelf = λ t. opened_with _ c.loop-start.images.items _ c.in_ok-image.image c.loop-start.start
      _ _ _ g.T.Space.Space.takes_frames c.in_ok-add.ensures c.in_ok-image.ensures.holds t
      (c.loop-start.invariant.shelf t) (c.in_ok-image.ensures.shelf t);
}
