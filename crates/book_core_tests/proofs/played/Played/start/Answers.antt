use Rattle.book_core_tests.proofs.Playing.{start_may}
use Rattle.book_core_tests.proofs.played.Played.start.Goals as goal

pub start-requires : goal.start-requires
start-requires g c = record {
  may = start_may _ _ _ _ c.in-Some.i _ _ c.in-Some.ensures
      (c.in_ok-may.ensures c.if-not-may.false);
}
