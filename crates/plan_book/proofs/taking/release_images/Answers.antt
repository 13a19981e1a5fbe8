use Rattle.std.proofs.Common.{◌≡◌, None}
use Rattle.context_uc.specs.Views.{LayerView}
use Rattle.plan_book.proofs.Shelves.{all_before, all_last, last_back}
use Rattle.plan_book.proofs.taking.release_images.Goals as goal

pub release-spares-requires-after_bounds : goal.release-spares-requires-after_bounds
release-spares-requires-after_bounds g c κs within =
    all_last (λ (l : LayerView g.row.T-Frozen.Denot). g.T.Frozen.Held.pin l.frozen ≡ None) _ _ _
    c.in-Some.ensures.items c.images.invariant.loose

pub images-preserved : goal.images-preserved
images-preserved g c = record {
  loose = all_before (λ (l : LayerView g.row.T-Frozen.Denot). g.T.Frozen.Held.pin l.frozen ≡ None)
      _ _ _ c.in-Some.ensures.items c.images.invariant.loose;
  shelf = last_back _ _ _ _ _ _ _ _ _ _ c.in-Some.ensures.items
      ((g.met.T.Store.none_are_taken c.requires.copied).0 c.release-spares.result)
      c.release-spares.ensures c.give_back.ensures c.images.invariant.shelf;
}
