use Rattle.std.proofs.Common.{ap}
use Rattle.book_model.specs.Shared.{Shared}
use Rattle.book_rounds.proofs.Working.{matched, so_found, served_there, taken_is}
use Rattle.book_rounds.proofs.rounds.Rounds.serve.Goals as goal

pub returns-in-Some-clause-served : goal.returns-in-Some-clause-served
returns-in-Some-clause-served g c =
    let takes = matched _ c.in-Some.waiter _ _ c.in-Some.is c.in_ok-waiter.ensures.taken in
    let told = so_found _ c.in-Some.waiter _ c.in-Some.is c.in_ok-waiter.ensures.told in
    served_there c.args.i _ c.take_idle.new.self.state c.args.self.now.book.started
    c.take_idle.new.self.started (ap (λ (b : Shared _ _ _). b.started) takes.new_is)
    (taken_is c.args.self.now.book.sizes c.args.self.now.book.events
    c.args.self.now.book.state c.args.i c.args.f c.take_idle.new.self.state
    c.args.self.now.book.started _ _ c.is_sound.ensures.held.log told.1 takes.legal)
