use Rattle.plan_book.proofs.Shelves.{all_first, all_more, all_rest, more_back, none_back}
use Rattle.plan_book.proofs.taking.end_all.Goals as goal

pub contexts-init : goal.contexts-init
contexts-init g c =
    let given = c.into_iter-slot-iterator.ensures.into_iter_gives in
    (tt, tt, all_more _ _ _ given c.requires.loose, none_back _ _ _ _ given)

pub end-spares-requires-after_bounds : goal.end-spares-requires-after_bounds
end-spares-requires-after_bounds g c κs within =
    all_first _ _ _ _ c.in-Some.ensures.steps c.contexts.invariant.2

pub contexts-preserved : goal.contexts-preserved
contexts-preserved g c = (
  tt,
  tt,
  all_rest _ _ _ _ c.in-Some.ensures.steps c.contexts.invariant.2,
  more_back _ _ _ _ _ _ _ _ _ _ c.in-Some.ensures.steps
      ((g.met.T.Store.none_are_taken c.requires.copied).0 c.end-spares.result)
      c.end-spares.ensures.stake c.give_back.ensures c.contexts.invariant.3,
)
