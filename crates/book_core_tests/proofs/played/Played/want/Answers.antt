use Rattle.book_core_tests.proofs.Playing.{want_open}
use Rattle.book_core_tests.proofs.played.Played.want.Goals as goal

pub want-requires : goal.want-requires
want-requires g c = record {
  «open» = want_open c.args.self.now.book.sizes c.args.self.now.book.state c.args.i
      (c.in_ok-may.ensures c.if-not-may.false);
}
