use Rattle.std.proofs.Common.{subst, sym, ap, ◌∙◌, ◌≡◌, true, refl}
use Rattle.journal_model.specs.Legal.{is_open, owes_nothing}
use Rattle.book_model.specs.Shared.{Shared}
use Rattle.book_model.proofs.Results.{want_may, want_quiet, stands_on, appends, one_state}
use Rattle.book_core.proofs.book.Book.want.Goals as goal

pub note-requires-clause-may : goal.note-requires-clause-may
note-requires-clause-may g c = want_may c.self.inside.log.sizes c.self.inside.log.state c.args.i
    c.self.invariant.2.owes (subst (λ (b : Shared _ _ _). is_open b.state c.args.i ≡ true)
    (sym c.self.view_is) c.requires.open)

pub invariant_of-self : goal.invariant_of-self
invariant_of-self g c = stands_on _ _ _ _ _ _ _ c.note.result c.self.inside.log c.note.new.self _
    _ _ _ _ _ _ _ c.note.ensures.state c.note.ensures.rest c.note.ensures.memory refl refl
    (λ t h. let q = want_quiet c.self.inside.log.sizes c.self.inside.log.state t c.args.i h in
    (q.0, ap (λ o. owes_nothing o) (sym q.1) ∙ c.self.invariant.2.owes)) c.self.invariant

pub returns-clause-wanted : goal.returns-clause-wanted
returns-clause-wanted g c = appends c.note.result c.self.inside.log c.note.new.self _ _ _ _ _ _ _
    (one_state c.note.result c.self.inside.log c.note.new.self _ c.note.ensures.state)
    c.note.ensures.rest c.self.view_is
