use Rattle.plan_book.proofs.Shelves.{all_first, all_more, all_rest, more_back, none_back}
use Rattle.plan_book.proofs.taking.release_all.Goals as goal

pub layers-init : goal.layers-init
layers-init g c =
    let given = c.into_iter-slot-iterator.ensures.into_iter_gives in
    (tt, tt, all_more _ _ _ given c.requires.loose, none_back _ _ _ _ given)

pub release-spares-requires-after_bounds : goal.release-spares-requires-after_bounds
release-spares-requires-after_bounds g c κs within =
    all_first _ _ _ _ c.in-Some.ensures.steps c.layers.invariant.2

pub layers-preserved : goal.layers-preserved
layers-preserved g c = (
  tt,
  tt,
  all_rest _ _ _ _ c.in-Some.ensures.steps c.layers.invariant.2,
  more_back _ _ _ _ _ _ _ _ _ _ c.in-Some.ensures.steps
      ((g.met.T.Store.none_are_taken c.requires.copied).0 c.release-spares.result)
      c.release-spares.ensures c.give_back.ensures c.layers.invariant.3,
)
