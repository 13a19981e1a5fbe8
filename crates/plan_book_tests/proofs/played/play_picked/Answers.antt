use Rattle.std.proofs.Common.{arith, refl}
use Rattle.plan_book.specs.OfPlan.{picked_grounds}
use Rattle.plan_book_tests.proofs.Starting.{first_of_plan, fresh_again}
use Rattle.plan_book_tests.proofs.played.play_picked.Goals as goal

pub open_book-requires : goal.open_book-requires
open_book-requires g c κs =
    let grounds = picked_grounds c.args.plan.now g.P.Planned.plan g.T.Frozen.FrozenMemory.flat
    c.requires.picked in (
      c.type_bounds.send-T-Space,
      (
        c.type_bounds.send-T-Frozen,
        (
          c.type_bounds.send-T-Shelf,
          (
            c.type_bounds.send-T-Spares,
            (
              (refl, tt),
              (
                c.requires.copied,
                (
                  grounds,
                  (
                    c.requires.starts,
                    (
                      c.requires.free,
                      omega arith,
                    ),
                  ),
                ),
              ),
            ),
          ),
        ),
      ),
    )

pub given_up-request-requires-clause-fresh : goal.given_up-request-requires-clause-fresh
given_up-request-requires-clause-fresh g c = fresh_again _ _ c.in_ok-book.ensures.opened

pub given_up-request-requires-clause-may : goal.given_up-request-requires-clause-may
given_up-request-requires-clause-may g c = first_of_plan _ c.args.plan.now _ _
    c.in_ok-book.ensures.opened c.requires.function c.requires.clock
