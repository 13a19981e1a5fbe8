use Rattle.std.proofs.Common.{subst, sym, ◌≡◌, ◌+◌, true, length}
use Rattle.journal_model.specs.Legal.{may_start}
use Rattle.book_model.specs.Shared.{Shared}
use Rattle.book_model.proofs.Results.{stands_started}
use Rattle.book_core.proofs.book.Book.start.Goals as goal

pub invariant_of-self : goal.invariant_of-self
invariant_of-self g c = stands_started _ _ _ _ _ _ _ c.start.result c.self.inside.log
    c.start.new.self c.args.one.now _ _ _ _ _ _ _ c.start.ensures.started c.start.ensures.memory
    (subst (λ (b : Shared _ _ _). may_start b.sizes b.state (length b.started + 1)
    c.args.one.now.function c.args.one.now.given.clock ≡ true) (sym c.self.view_is)
    c.requires.may) c.self.invariant
