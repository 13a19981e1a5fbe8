use Rattle.std.proofs.Common.{subst, map}
use Rattle.slot_lists.specs.Held.{AreUnder}
use Rattle.book_model.specs.Shared.{Shared}
use Rattle.book_core.proofs.book.Book.close.Goals as goal

pub returns-clause-contexts : goal.returns-clause-contexts
returns-clause-contexts g c = subst (λ (b : Shared _ _ _). AreUnder (map (λ e. e.1.context) b.idle)
    c.into_slots.result) c.self.view_is c.into_slots.ensures

pub returns-clause-layers : goal.returns-clause-layers
returns-clause-layers g c = subst (λ (b : Shared _ _ _). AreUnder (map (λ e. e.1) b.kept)
    c.into_slots-2.result) c.self.view_is c.into_slots-2.ensures
