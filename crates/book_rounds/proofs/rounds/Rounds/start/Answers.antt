use Rattle.std.proofs.Common.{◌≡◌, ◌<◌, true, List, length, ap, subst, ◌∙◌}
use Rattle.journal_model.specs.Extents.{Extents}
use Rattle.journal_model.specs.State.{numbered}
use Rattle.journal_model.specs.Legal.{is_clock}
use Rattle.book_log.specs.declared.started.Started.{Started}
use Rattle.book_model.specs.Shared.{Shared}
use Rattle.journal_laws.proofs.Numbers.{pushed_here}
use Rattle.book_rounds.proofs.Working.{next_may, started_is}
use Rattle.book_rounds.proofs.rounds.Rounds.start.Goals as goal

pub start-requires : goal.start-requires
start-requires g c =
    let known = subst (λ (x : Extents). c.args.one.now.function < length x.stacks) c.sizes.ensures
    (c.has_function-known.ensures c.if-not-known.false) in
    let timely = subst (λ (x : Extents). is_clock x.clock c.args.one.now.given.clock ≡ true)
    c.sizes-2.ensures (c.is_clock-timely.ensures c.if-not-timely.false) in
    record {
      may = next_may c.args.self.now.book.sizes c.args.self.now.book.events
          c.args.self.now.book.state c.args.self.now.book.started c.in-Some._next
          c.args.one.now.function c.args.one.now.given.clock c.is_sound.ensures.held.log
          c.is_sound.ensures.owes c.in-Some.ensures known timely;
    }

pub returns-clause-waits : goal.returns-clause-waits
returns-clause-waits g c =
    let known = subst (λ (x : Extents). c.args.one.now.function < length x.stacks) c.sizes.ensures
    (c.has_function-known.ensures c.if-not-known.false) in
    let timely = subst (λ (x : Extents). is_clock x.clock c.args.one.now.given.clock ≡ true)
    c.sizes-2.ensures (c.is_clock-timely.ensures c.if-not-timely.false) in
    let may = next_may c.args.self.now.book.sizes c.args.self.now.book.events
    c.args.self.now.book.state c.args.self.now.book.started c.in-Some._next
    c.args.one.now.function c.args.one.now.given.clock c.is_sound.ensures.held.log
    c.is_sound.ensures.owes c.in-Some.ensures known timely in
    (started_is c.args.self.now.book c.start.new.self c.args.one.now c.in_ok-i.i may
    c.in_ok-i.ensures.number (ap (λ (b : Shared _ _ _). b.state) c.in_ok-i.ensures.started)
    (ap (λ (b : Shared _ _ _). b.started) c.in_ok-i.ensures.started)).0

pub returns-clause-function : goal.returns-clause-function
returns-clause-function g c =
    let known = subst (λ (x : Extents). c.args.one.now.function < length x.stacks) c.sizes.ensures
    (c.has_function-known.ensures c.if-not-known.false) in
    let timely = subst (λ (x : Extents). is_clock x.clock c.args.one.now.given.clock ≡ true)
    c.sizes-2.ensures (c.is_clock-timely.ensures c.if-not-timely.false) in
    let may = next_may c.args.self.now.book.sizes c.args.self.now.book.events
    c.args.self.now.book.state c.args.self.now.book.started c.in-Some._next
    c.args.one.now.function c.args.one.now.given.clock c.is_sound.ensures.held.log
    c.is_sound.ensures.owes c.in-Some.ensures known timely in
    (started_is c.args.self.now.book c.start.new.self c.args.one.now c.in_ok-i.i may
    c.in_ok-i.ensures.number (ap (λ (b : Shared _ _ _). b.state) c.in_ok-i.ensures.started)
    (ap (λ (b : Shared _ _ _). b.started) c.in_ok-i.ensures.started)).1

pub returns-clause-there : goal.returns-clause-there
returns-clause-there g c =
    ap (λ (l : List Started). numbered l c.in_ok-i.i)
    (ap (λ (b : Shared _ _ _). b.started) c.in_ok-i.ensures.started)
    ∙ (ap (numbered _) c.in_ok-i.ensures.number
    ∙ pushed_here c.args.self.now.book.started c.args.one.now)
