use Rattle.std.proofs.Common.{ap}
use Rattle.book_model.specs.Shared.{Shared}
use Rattle.plan_book_tests.proofs.Starting.{may_begin_in, opens_in}
use Rattle.plan_book_tests.proofs.played.given_up.Goals as goal

pub start-requires : goal.start-requires
start-requires g c = record {
  may = may_begin_in c.args.book.now _ _ c.requires.fresh c.requires.may;
}

pub want-requires : goal.want-requires
want-requires g c = record {
  «open» = opens_in c.args.book.now c.start.new.self.state c.in_ok-i.i _ _ c.requires.fresh
      c.in_ok-i.ensures.number
      (ap (λ (b : Shared _ _ _). b.state) c.in_ok-i.ensures.started);
}
