use Rattle.std.proofs.Common.{subst, sym, IsSome, ℕ, Option, refl}
use Rattle.journal_model.specs.Legal.{after_all}
use Rattle.journal_model.specs.declared.event.Event.TheVariants.{End}
use Rattle.book_model.specs.Shared.{Shared}
use Rattle.book_model.specs.Steps.{ended}
use Rattle.book_model.proofs.Results.{end_quiet, answer_quiet, stands_on, stands_both, appends}
use Rattle.book_model.proofs.Results.{one_state, one_may}
use Rattle.book_core.proofs.book.Book.end.Goals as goal

pub note-requires-clause-may : goal.note-requires-clause-may
note-requires-clause-may g c = let may = subst (λ (b : Shared _ _ _). IsSome
    (after_all b.sizes b.state (ended c.args.i c.args.c c.args.answered))) (sym c.self.view_is)
    c.requires.may in one_may c.self.inside.log.sizes c.self.inside.log.state (End c.args.c)
    (subst (λ (a : Option ℕ). IsSome (after_all c.self.inside.log.sizes c.self.inside.log.state
    (ended c.args.i c.args.c a))) c.in-None.is may)

pub invariant_of-self : goal.invariant_of-self
invariant_of-self g c = stands_on _ _ _ _ _ _ _ c.note.result c.self.inside.log c.note.new.self _
    _ _ _ _ _ _ _ c.note.ensures.state c.note.ensures.rest c.note.ensures.memory refl refl
    (λ t h. end_quiet c.self.inside.log.sizes c.self.inside.log.state t c.args.c h)
    c.self.invariant

pub invariant_of-self-in-Some : goal.invariant_of-self-in-Some
invariant_of-self-in-Some g c = stands_both _ _ _ _ _ _ _ c.note_both.result c.self.inside.log
    c.note_both.new.self _ _ _ _ _ _ _ _ _ c.note_both.ensures.state c.note_both.ensures.rest
    c.note_both.ensures.memory refl refl refl refl
    (λ t h. answer_quiet c.self.inside.log.sizes c.self.inside.log.state t c.args.i c.args.c _ h)
    (λ t u h. end_quiet c.self.inside.log.sizes t u c.args.c h) c.self.invariant

pub returns-in-None-clause-over : goal.returns-in-None-clause-over
returns-in-None-clause-over g c = rw c.in-None.is (appends c.note.result c.self.inside.log
    c.note.new.self _ _ _ _ _ _ _ (one_state c.note.result c.self.inside.log c.note.new.self _
    c.note.ensures.state) c.note.ensures.rest c.self.view_is)
