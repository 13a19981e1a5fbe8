use Rattle.std.proofs.Common.{refl}
use Rattle.plan_book.specs.OfPlan.{picked_grounds}
use Rattle.plan_book_tests.proofs.opened.open_picked.Goals as goal

pub open_book-requires : goal.open_book-requires
open_book-requires g c κs =
    let grounds = picked_grounds c.args.plan.now g.P.Planned.plan g.T.Frozen.FrozenMemory.flat
    c.requires.picked in (
      c.type_bounds.send-T-Space,
      (
        c.type_bounds.send-T-Frozen,
        (
          c.type_bounds.send-T-Shelf,
          (
            c.type_bounds.send-T-Spares,
            (
              (refl, tt),
              (
                c.requires.copied,
                (
                  grounds,
                  (
                    c.requires.starts,
                    (
                      c.requires.free,
                      c.requires.few,
                    ),
                  ),
                ),
              ),
            ),
          ),
        ),
      ),
    )
